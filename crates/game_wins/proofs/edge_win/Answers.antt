use Rattle.std.proofs.Common.{◌≡◌, sym, ◌∙◌, ap, rules, arith, length}
use Rattle.fra.specs.Rules.{other}
use Rattle.fra.specs.declared.Edge.{Edge}
use Rattle.game_index.proofs.Reading.{model_in_lem}
use Rattle.game_wins.proofs.EdgeCases.{edge_by_case, asked-in, none_wins, next_case, wins-in, fails-in, fails-at_last}
use Rattle.game_wins.proofs.edge_win.Goals as goal

pub loop-case-init : goal.loop-case-init
loop-case-init c =
    let a = c.args in
    let b = a.index.now.bytes in
    record {
      others_are =
          c.set_of-others.ensures ∙ rw (c.state.ensures, c.other-away.ensures, model_in_lem b (other a.side));
      room_is = c.has_room-room.ensures;
      takes_is = ap (λ (e : Edge). e.kind) c.edge_at-kind.ensures ∙ rw (model_in_lem b a.side);
      asked = c.of-challenge.ensures;
      winner = edge_by_case _ _ _ _ _;
    }

pub returns-in_err-case : goal.returns-in_err-case
returns-in_err-case c =
    c.from_residual.ensures ∙ sym (none_wins _ _ _ _ _ c.loop-case.invariant c.next_case.ensures c.in_err-case.was)

pub settled-requires : goal.settled-requires
settled-requires c =
    record { searchable = c.requires; asked = asked-in _ _ _ _ _ c.loop-case.invariant _ c.in_case.ensures }

pub returns-then-settled : goal.returns-then-settled
returns-then-settled c =
    sym
    (wins-in _ _ _ _ _ c.loop-case.invariant c.next_case.ensures c.in_ok-case.was c.in_case.ensures c.settled.ensures
    c.if-settled.true)

pub returns-then-next-p : goal.returns-then-next-p
returns-then-next-p c =
    let six : length c.args.p.partners ≡ 6 = search rules in
    sym
    (fails-at_last _ _ _ _ _ c.loop-case.invariant c.next_case.ensures c.in_ok-case.was c.in_case.ensures c.settled.ensures
    c.if-settled.false
    (rw six c.if-next-p.true))

pub loop-case-smaller : goal.loop-case-smaller
loop-case-smaller c =
    rw (next_case _ _ _ _ _ c.loop-case.invariant c.next_case.ensures c.in_ok-case.was).first (omega arith)

pub loop-case-preserved : goal.loop-case-preserved
loop-case-preserved c =
    fails-in _ _ _ _ _ c.loop-case.invariant c.next_case.ensures c.in_ok-case.was c.in_case.ensures c.settled.ensures
    c.if-settled.false
