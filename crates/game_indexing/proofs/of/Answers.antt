-- one side, the other, the start and its history, the game
use Rattle.std.proofs.Common.{ℕ, ◌≡◌, rules, length, replicate}
use lib.ListN.{set, length-replicate}
use mir.Val.{bool_byte}
use Rattle.fra.specs.Rules.{model_of}
use Rattle.fra.specs.declared.Task.{Task}
use Rattle.fra.specs.declared.Side.{Side}
use Rattle.fra.specs.declared.Side.TheVariants.{Left, Right}
use Rattle.game_index.specs.Layout.{size}
use Rattle.game_index.specs.Writing.{Sized, Indexes}
use Rattle.game_indexing.proofs.Flags.{test-byte}
use Rattle.game_indexing.proofs.IndexParts.{SizedTask, of-written}
use Rattle.game_indexing.proofs.Indexed.{index_of}
use Rattle.game_indexing.proofs.of.Goals.{After-from}
use Rattle.game_indexing.proofs.of.Goals as goal

pub put_side-requires-clause-indexable_model : goal.put_side-requires-clause-indexable_model
put_side-requires-clause-indexable_model c = record { valid = c.requires.valid.left; tags = c.requires.tags Left }

pub put_side-requires-2-clause-indexable_model : goal.put_side-requires-2-clause-indexable_model
put_side-requires-2-clause-indexable_model c = record { valid = c.requires.valid.right; tags = c.requires.tags Right }

both : (t : Task) → Sized t.left → Sized t.right → (s : Side) → Sized (model_of t s)
both t l r Left = l
both t l r Right = r

-- what was written is the index of the task and the game
written : (c : After-from) → Indexes c.args.t c.args.game (set (set c.put_start.new.out 5203 (bool_byte c.args.t.history_stated)) 5204 c.from.result)
written c =
    let t = c.args.t in
    let six : length t.start.partners ≡ 6 = search rules in
    let sides = both t c.put_side.ensures.sized c.put_side-2.ensures.sized in
    let sized : SizedTask t = record { sides = sides; partners = six } in
    record {
      indexable = c.requires;
      sized = sides;
      partners = six;
      written =
          rw (
            c.from.ensures,
            test-byte t.history_stated,
            c.put_start.ensures,
            c.put_side-2.ensures.written,
            c.put_side.ensures.written,
          )
          (of-written t _ sized (replicate size 0) (length-replicate {A = ℕ} size 0));
    }

pub returns : goal.returns
returns c = written (goal.at.returns c).After-from

pub invariant_of-result : goal.invariant_of-result
invariant_of-result c = record { of_a_task = (index_of (written c)).index }
