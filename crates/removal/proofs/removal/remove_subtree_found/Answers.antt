-- The contract of `removal::removal::remove_subtree_found`.
use mathlib.Core.Path.{sym, ◌∙◌}
use lib.ListN.{length}
use Rattle.sound.specs.GuardLaws.{capacity-fits}
use Rattle.removal.specs.RemoveLaws.{found_freeable}
use Rattle.removal.proofs.removal.remove_subtree_found.Goals as goal

pub remove_subtree-requires : goal.remove_subtree-requires
remove_subtree-requires c =
    let a = c.args in
    (found_freeable a.words.now a.h a.id (sym c.found.ensures ∙ c.if-not-found.false) c.requires.0 c.requires.1, (capacity-fits (length a.words.now) a.h.used c.requires.0).0)
