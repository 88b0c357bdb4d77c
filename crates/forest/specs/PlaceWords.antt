-- A node that stands alone goes between two neighbours, on words: memory after it holds the forest after it; where the node is not
-- above its new parent, ready memory stays ready. The four insertions differ only in the place.
use Rattle.std.specs.Prelude.{◌≡◌, refl, ◌≢◌, List, [], ◌∷◌, ◌++◌, ℕ, ◌*◌, ◌≤◌, length}
use Rattle.std.proofs.Common.{inl, arith}
use Rattle.link.specs.Words.{width, PARENT}
use Rattle.link.specs.Found.{Found}
use Rattle.link.proofs.OnlyLaws.{only-link, only_then, only-connect}
use Rattle.link.specs.declared.header.Header.{Header}
use Rattle.rules.specs.Lists.{head_or, last_or}
use Rattle.rules.specs.Links.{par, View, view}
use Rattle.rules.specs.Sound.{Ready}
use Rattle.rules.specs.Forest.{Key, children, roots, owner, Forest, OwnerIn, Holds, moved}
use Rattle.rules.specs.Tree.{Above}
use Rattle.forest.specs.View.{connect}
use Rattle.follow.specs.Follow.{Ends, stop}
use Rattle.forest.specs.Found.{found-nodes}
use Rattle.forest.specs.Acyclic.{Acyclic, ends_hang}
use Rattle.forest.specs.Places.{left-live, right-live, owner-live}
use Rattle.forest.specs.Insert.{all_at, transplant, holds_insert}
use Rattle.forest.specs.Looks.{Looks, looks_itself}
use Rattle.forest.specs.Surgery.{place_words, looks-place}
use Rattle.forest.specs.Kept.{Kept, only_kept, ready-kept}
use Rattle.forest.specs.After.{looks-holds, looks-sound}
use Rattle.forest.specs.Whole.{Forested, no_cycle}

pub kept-place : (m : List ℕ) (x o p n : ℕ) → Kept m (place_words m x o p n)
unfolding place_words
kept-place m x o p n = only_kept (only_then (only_then (only-link m x PARENT o (omega arith) (omega arith)) (only-connect _ o p x)) (only-connect _ o x n))

module _ (m : List ℕ) (h : Header) (room : h.used * width ≤ length m) (F : Forest) (H : Forested m h F) (x j : ℕ) (alone : F (roots j) ≡ x ∷ [])
    (k : Key) (ls rs : List ℕ) (e : F k ≡ ls ++ rs) (ok : OwnerIn (Found m h.used) k) (kj : k ≢ roots j) where
  abbrev live : ℕ → Type 0
  live = Found m h.used

  abbrev w : View
  w = transplant (view m) (owner k) (last_or 0 ls) (head_or rs 0) (x ∷ [])

  looks : Looks (place_words m x (owner k) (last_or 0 ls) (head_or rs 0)) live h.used w
  looks =
      looks-place live (found-nodes m h.used) h.used m (view m) x (owner k) (last_or 0 ls) (head_or rs 0)
      (H.members.member (roots j) x (rw alone (inl refl))).0 (owner-live live k ok)
      (left-live (view m) live F H k ls rs e) (right-live (view m) live F H k ls rs e) (looks_itself m h.used room)

  holds : Holds w live (moved F k ls (x ∷ []) rs (roots j))
  holds = holds_insert (view m) live F H k ls rs e ok j x [] alone kj

  pub place_forested : Forested (place_words m x (owner k) (last_or 0 ls) (head_or rs 0)) h (moved F k ls (x ∷ []) rs (roots j))
  place_forested = looks-holds _ _ _ _ _ looks holds

  pub place-ready : Ready m h → (Above (view m par) x (owner k) → ⊥) → Ready (place_words m x (owner k) (last_or 0 ls) (head_or rs 0)) h
  unfolding transplant connect all_at
  place-ready R below = ready-kept m _ (kept-place m x (owner k) (last_or 0 ls) (head_or rs 0)) h (looks-sound _ _ _ _ _ looks holds ends) R
    where
      up : (k : Key) → OwnerIn live k → Ends (view m par) (owner k)
      up (children q) l = no_cycle m h R.sound q l
      up (roots i) l = stop

      ends : Acyclic w live
      ends y l = ends_hang (view m par) x (owner k) (up k ok) below (no_cycle m h R.sound y l)
