use Rattle.std.proofs.Common.{◌≡◌, ◌∙◌, ap, ℕ, List, [], ◌∷◌, ◌++◌, ◌-◌, rules, arith, length, length-append}
use Rattle.fra.specs.Lists.{count}
use Rattle.fra.specs.Position.{bytes}
use Rattle.fra_laws.proofs.ByPlace.{elements}
use Rattle.game_index.specs.Layout.{size, start_at, stated_at}
use Rattle.game_indexing.proofs.Appended.{put_mid-sets}
use Rattle.game_indexing.proofs.put_start.Goals as goal

pub returns : goal.returns
unfolding bytes count
returns c =
    let p = c.args.p in
    let six : length p.partners ≡ 6 = search rules in
    let long : length c.args.out.now ≡ size = search rules in
    put_mid-sets start_at (stated_at - start_at) c.args.out.now c.copy_from_slice.new.self (bytes p)
    (c.copy_from_slice.ensures.after
    ∙ ap (λ (l : List ℕ). p.left ∷ p.right ∷ l ++ p.history ∷ []) (elements 6 p.partners 0 six))
    (simp length-append (omega arith))
    (omega arith)
