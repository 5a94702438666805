-- What a test keeps of lists that are put together from others. Assumes nothing.
use mathlib.Core.Path.{◌≡◌, refl, ◌∙◌}
use mathlib.Core.Bool.{Bool, true, false, cond, ◌&&◌}
use mathlib.Core.List.Memᴰ
use mathlib.Core.List.{List, [], ◌∷◌, ◌++◌, map, flat_map}
use Rattle.fra.specs.Lists.{◌∈◌, keep}
use Rattle.fra_laws.proofs.Lists.{keep_passes, keep_fails}

module _ {A : Type 0} where
  pub keep_append : (f : A → Bool) (l m : List A) → keep f (l ++ m) ≡ keep f l ++ keep f m
  unfolding keep
  keep_append f [] m = refl
  keep_append f (x ∷ l) m = step (f x) refl (keep_append f l m)
    where
      step : (b : Bool) → f x ≡ b → keep f (l ++ m) ≡ keep f l ++ keep f m → keep f (x ∷ l ++ m) ≡ keep f (x ∷ l) ++ keep f m
      step true e r = rw (keep_passes f x (l ++ m) e, keep_passes f x l e, r)
      step false e r = rw (keep_fails f x (l ++ m) e, keep_fails f x l e, r)

  -- two tests that agree on a list keep the same
  pub keep_same : (f g : A → Bool) (l : List A) → ((x : A) → x ∈ l → f x ≡ g x) → keep f l ≡ keep g l
  unfolding keep
  keep_same f g [] h = refl
  keep_same f g (x ∷ l) h = step (g x) (h x (Memᴰ.head refl)) refl (keep_same f g l (λ y m. h y (Memᴰ.tail m)))
    where
      step : (b : Bool) → f x ≡ b → g x ≡ b → keep f l ≡ keep g l → keep f (x ∷ l) ≡ keep g (x ∷ l)
      step true p q r = rw (keep_passes f x l p, keep_passes g x l q, r)
      step false p q r = rw (keep_fails f x l p, keep_fails g x l q, r)

  -- a test of which a part is the same for all
  pub keep_and : (b : Bool) (f : A → Bool) (l : List A) → keep (λ x. b && f x) l ≡ cond b (keep f l) []
  unfolding keep
  keep_and true f l = refl
  keep_and false f [] = refl
  keep_and false f (x ∷ l) = keep_and false f l

module _ {A B : Type 0} where
  pub keep-map : (f : B → Bool) (g : A → B) (l : List A) → keep f (map g l) ≡ map g (keep (λ x. f (g x)) l)
  unfolding keep
  keep-map f g [] = refl
  keep-map f g (x ∷ l) = step (f (g x)) refl (keep-map f g l)
    where
      step : (b : Bool) → f (g x) ≡ b → keep f (map g l) ≡ map g (keep (λ x. f (g x)) l)
          → keep f (map g (x ∷ l)) ≡ map g (keep (λ x. f (g x)) (x ∷ l))
      step true e r = rw (keep_passes f (g x) (map g l) e, keep_passes (λ x. f (g x)) x l e, r)
      step false e r = rw (keep_fails f (g x) (map g l) e, keep_fails (λ x. f (g x)) x l e, r)

  pub keep-flat_map : (f : B → Bool) (g : A → List B) (l : List A) → keep f (flat_map g l) ≡ flat_map (λ x. keep f (g x)) l
  unfolding keep flat_map
  keep-flat_map f g [] = refl
  keep-flat_map f g (x ∷ l) = keep_append f (g x) (flat_map g l) ∙ rw (keep-flat_map f g l)

  -- what the elements that pass a test are mapped to
  pub flat_map-keep : (f : A → Bool) (g h : A → List B) (l : List A)
      → ((x : A) → x ∈ l → h x ≡ cond (f x) (g x) []) → flat_map h l ≡ flat_map g (keep f l)
  unfolding keep flat_map
  flat_map-keep f g h [] e = refl
  flat_map-keep f g h (x ∷ l) e = step (f x) refl (e x (Memᴰ.head refl)) (flat_map-keep f g h l (λ y m. e y (Memᴰ.tail m)))
    where
      step : (b : Bool) → f x ≡ b → h x ≡ cond (f x) (g x) [] → flat_map h l ≡ flat_map g (keep f l)
          → flat_map h (x ∷ l) ≡ flat_map g (keep f (x ∷ l))
      step true p q r = rw (keep_passes f x l p, q, p, r)
      step false p q r = rw (keep_fails f x l p, q, p) r
