-- A found node of ready memory taken out of its chain, as the models do it: the words are those of the detached node, memory is
-- ready, and the free chain is the same.
use Rattle.std.specs.Prelude.{◌≡◌, List, ℕ, ◌*◌, ◌≤◌, length, Result}
use Rattle.std.proofs.Common.{ap, arith}
use Rattle.link.specs.Words.{width, PARENT}
use Rattle.link.specs.Found.{Found}
use Rattle.link.proofs.OnlyLaws.{only-link, only_then, only-detach}
use Rattle.link.specs.declared.header.Header.{Header}
use Rattle.link.specs.declared.siblings_range.ConsistencyError.{ConsistencyError}
use Rattle.rules.specs.Links.{view}
use Rattle.rules.specs.Sound.{Ready}
use Rattle.forest.specs.View.{detach}
use Rattle.forest.specs.Free.{free-only}
use Rattle.forest.specs.Looks.{Looks}
use Rattle.forest.specs.Kept.{free-kept}
use Rattle.forest.specs.Surgery.{detach_words}
use Rattle.forest.specs.DetachWords.{kept-detach, detach-looks, detach_ready}
use Rattle.forest.specs.Transplant.{detach_rewrites}
use Rattle.removal.specs.Remove as model
use Rattle.removal.specs.Remove.{steps_for}

-- What taking a node out writes is the detached node, since it has no next then.
pub detached-words : (m : List ℕ) (h : Header) → h.used * width ≤ length m → Ready m h → (x : ℕ) → Found m h.used x
    → model.detached (steps_for h.used) m x ≡ detach_words m x
unfolding model.detached
detached-words m h room R x f =
    let a = f.from in let b = f.upto in
    ap (λ (p : List ℕ × Result Unit ConsistencyError). p.0) (detach_rewrites m h room R.sound x f (steps_for h.used) (omega arith))

pub detach-length : (m : List ℕ) (x : ℕ) → length (detach_words m x) ≡ length m
unfolding detach_words
detach-length m x = (only_then (only-detach m x x) (only-link _ x PARENT 0 (omega arith) (omega arith))).size

module _ (m : List ℕ) (h : Header) (room : h.used * width ≤ length m) (R : Ready m h) (x : ℕ) (f : Found m h.used x) where
  pub alone-room : h.used * width ≤ length (detach_words m x)
  alone-room = rw (detach-length m x) room

  pub alone-ready : Ready (detach_words m x) h
  alone-ready = detach_ready m h room R x f

  pub alone-looks : Looks (detach_words m x) (Found m h.used) h.used (detach (view m) x)
  alone-looks = detach-looks m h room R.sound x f

  pub alone-slots : alone-ready.sound.free.slots ≡ R.sound.free.slots
  unfolding free-kept
  alone-slots = free-only _ _ _ _ _ alone-ready.sound.free (free-kept m (detach_words m x) (kept-detach m x) h R.sound.free)
