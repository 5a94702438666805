-- An edge's kind and its register from their numbers. Assumes nothing.
use Prim.Native.Nat.{ℕ, zero, suc}
use mathlib.Core.Path.{◌≡◌, refl}
use Rattle.fra.specs.Model.{kind_number, register_of, kind_of}
use Rattle.fra.specs.declared.EdgeKind.{EdgeKind}
use Rattle.fra.specs.declared.EdgeKind.TheVariants.{Known, LocallyFresh, GloballyFresh}

pub register_of-kind : (n i : ℕ) → register_of (kind_of n i) ≡ i
register_of-kind zero i = refl
register_of-kind (suc zero) i = refl
register_of-kind (suc (suc n)) i = refl

pub kind_of-number : (kind : EdgeKind) → kind_of (kind_number kind) (register_of kind) ≡ kind
kind_of-number (Known i) = refl
kind_of-number (LocallyFresh i) = refl
kind_of-number (GloballyFresh i) = refl
