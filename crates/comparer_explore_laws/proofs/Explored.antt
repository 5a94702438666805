-- The exploring argument: a list of reached positions in which none stands twice is no longer than the list of all, and where
-- it has the start and all successors it has the same members. The positions may stand in the list under names, as their keys
-- are. Assumes nothing.
use Prim.Native.Nat.{ℕ, ◌≤◌}
use mathlib.Core.Path.{◌≡◌, sym}
use mathlib.Core.Logic.{◌↔◌}
use mathlib.Core.List.Memᴰ
use mathlib.Core.List.{List, map}
use native.Mathlib.Omega.{arith}
use lib.ListN.{length, length-map}
use Rattle.fra.specs.Lists.{◌∈◌, Unique}
use Rattle.fra.specs.Rules.{Rules}
use Rattle.fra.specs.Reach.{begin, onward, successors, Reached, reached}
use Rattle.fra.specs.Valid.{Valid}
use Rattle.fra.specs.declared.Position.{Position}
use Rattle.fra.specs.declared.Task.{Task}
use Rattle.fra_laws.proofs.Lengths.{map-unique, unique-length}
use Rattle.fra_laws.proofs.Reached.{reached-exactly, reached-unique}

module _ {r : ℕ} {t : Task} (valid : Valid r t) (g : Rules) {A : Type 0} (name : Position → A) where
  -- the names of the positions reached
  abbrev names : List A
  names = map name (reached g t)

  names_intro : (p : Position) → Reached g t p → name p ∈ names
  names_intro p h = Memᴰ.map name ((reached-exactly valid g p).1 h)

  pub names-unique : ((p q : Position) → Reached g t p → Reached g t q → name p ≡ name q → p ≡ q) → Unique names
  names-unique apart =
      map-unique name (reached g t)
      (λ p q m n. apart p q ((reached-exactly valid g p).0 m) ((reached-exactly valid g q).0 n))
      (reached-unique valid g)

  module _ (l : List A) (unique : Unique l) (sound : (a : A) → a ∈ l → (p : Position) × Reached g t p × (a ≡ name p)) where
    explored_named : (a : A) → a ∈ l → a ∈ names
    explored_named a m = let w = sound a m in Memᴰ.cast w.2 (names_intro w.0 w.1)

    pub explored_few : length l ≤ length (reached g t)
    explored_few = rw length-map at (unique-length l names unique explored_named)

    module _ (apart : (p q : Position) → Reached g t p → Reached g t q → name p ≡ name q → p ≡ q)
        (starts : name t.start ∈ l)
        (leads : (p q : Position) → Reached g t p → name p ∈ l → q ∈ successors g t p → name q ∈ l)
      where
        explored_all : {p : Position} → Reached g t p → name p ∈ l
        explored_all begin = starts
        explored_all (onward {p = p} {q = q} c m) = leads p q c (explored_all c) m

        pub explored_members : (a : A) → a ∈ l ↔ a ∈ names
        explored_members a = (
          explored_named a,
          λ m.
              let w = Memᴰ.of_map name (reached g t) m in
              Memᴰ.cast (sym w.2) (explored_all ((reached-exactly valid g w.0).0 w.1)),
        )

        pub explored_length : length l ≡ length (reached g t)
        explored_length =
            let a = explored_few in
            let b = rw length-map at (unique-length names l (names-unique apart) (λ x. (explored_members x).1)) in
            omega arith
