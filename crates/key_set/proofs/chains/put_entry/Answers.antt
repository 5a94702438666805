-- Three words are written, and the first leaves the heads.
use Rattle.std.proofs.Common.{suc, ◌∙◌, ap, add-one}
use Rattle.listing.specs.Words.{put_word}
use Rattle.key_set_laws.specs.Stored.{with_key, link_place, head_place}
use Rattle.key_set_laws.proofs.Chains.{head-kept}
use Rattle.key_set.proofs.chains.put_entry.Goals as goal

pub returns : goal.returns
returns c =
    let a = c.args in
    let head =
    rw (c.put_word.ensures, c.head_place-at.ensures) at c.word_at-head.ensures
    ∙ head-kept a.entries a.table.now a.n a.key a.b c.requires.0 in
    rw (c.put_word-3.ensures, c.put_word-2.ensures, c.put_word.ensures, c.head_place-at.ensures, add-one a.n)
    (ap
    (λ h. put_word (put_word (with_key a.table.now a.n a.key) (link_place a.entries a.n) h) (head_place a.entries a.b) (suc a.n))
    head)
