-- What an index promises is a proposition, so that a type can carry it.
use mathlib.Core.Bool.{Bool-set}
use Rattle.std.specs.Prelude.{ℕ, List}
use Rattle.std.specs.Coded.{le_prop, Coded-set, coded_ℕ}
use denote.Struct.Field.{u8-field}
use Rattle.fra.specs.Valid.{RegisterRule}
use Rattle.fra.specs.declared.EdgeKind.{EdgeKind}
use Rattle.fra.specs.declared.EdgeKind.TheVariants.{Known, LocallyFresh, GloballyFresh}
use Rattle.game_index.specs.Writing.{Index}

pub rule_prop : (from to : ℕ) (k : EdgeKind) → IsProp (RegisterRule from to k)
rule_prop from to (Known i) = Prim.hlevel Bool-set
rule_prop from to (LocallyFresh i) = Prim.hlevel Bool-set
rule_prop from to (GloballyFresh i) = Prim.hlevel Bool-set

byte-set : IsSet u8-field.Value
byte-set = Coded-set coded_ℕ

pub index_prop : (b : List ℕ) → IsProp (Index b)
index_prop b = Prim.hlevel (rule_prop, Bool-set, le_prop, byte-set)
