-- Strings in a row: those of the elements of a list. Assumes nothing.
use mathlib.Core.Path.{◌≡◌, refl, ap}
use mathlib.Core.List.Memᴰ
use mathlib.Core.List.{List, [], ◌∷◌, ◌++◌, map, flat_map, append_assoc}
use Rattle.fra.specs.Lists.{◌∈◌}

module _ {A B : Type 0} (f : A → List B) where
  pub flat_map-append : (l m : List A) → flat_map f (l ++ m) ≡ flat_map f l ++ flat_map f m
  unfolding flat_map
  flat_map-append [] m = refl
  flat_map-append (x ∷ l) m = rw (flat_map-append l m, append_assoc)

  pub flat_map-map : {C : Type 0} (h : C → A) (l : List C) → flat_map f (map h l) ≡ flat_map (λ c. f (h c)) l
  unfolding flat_map
  flat_map-map h [] = refl
  flat_map-map h (c ∷ l) = ap (λ (m : List B). f (h c) ++ m) (flat_map-map h l)

  -- strings that agree on a list
  pub flat_map-same : (h : A → List B) (l : List A) → ((x : A) → x ∈ l → f x ≡ h x) → flat_map f l ≡ flat_map h l
  unfolding flat_map
  flat_map-same h [] e = refl
  flat_map-same h (x ∷ l) e = rw (e x (Memᴰ.head refl), flat_map-same h l (λ y m. e y (Memᴰ.tail m)))
