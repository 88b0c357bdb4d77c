-- Detach on words, from end to end: memory after it holds the forest after it, with the node a chain of one, and sound memory
-- stays sound, ready memory ready.
use Rattle.std.specs.Prelude.{◌≡◌, List, [], ◌∷◌, ◌++◌, ℕ, ◌*◌, ◌≤◌, length}
use Rattle.std.proofs.Common.{arith}
use Rattle.link.specs.Words.{width, PARENT}
use Rattle.link.specs.Found.{Found}
use Rattle.link.proofs.OnlyLaws.{only-link, only_then, only-detach}
use Rattle.link.specs.declared.header.Header.{Header}
use Rattle.rules.specs.Links.{view}
use Rattle.rules.specs.Sound.{SoundLinks, Sound, Ready}
use Rattle.rules.specs.Forest.{Key, roots, Forest, detached}
use Rattle.forest.specs.View.{detach}
use Rattle.forest.specs.Found.{found-nodes}
use Rattle.forest.specs.Acyclic.{detach-acyclic}
use Rattle.forest.specs.Members.{put_same}
use Rattle.forest.specs.Places.{place}
use Rattle.forest.specs.Detach.{holds-detach}
use Rattle.forest.specs.Looks.{Looks, looks_itself}
use Rattle.forest.specs.Surgery.{detach_words, looks-detach}
use Rattle.forest.specs.Kept.{Kept, only_kept, sound-kept, ready-kept}
use Rattle.forest.specs.After.{looks-holds, looks-sound}
use Rattle.forest.specs.Whole.{Forested, forest_of, sound_forested, sound-free, no_cycle}

pub kept-detach : (m : List ℕ) (x : ℕ) → Kept m (detach_words m x)
unfolding detach_words
kept-detach m x = only_kept (only_then (only-detach m x x) (only-link _ x PARENT 0 (omega arith) (omega arith)))

module _ (m : List ℕ) (h : Header) (room : h.used * width ≤ length m) (S : Sound m h) (x : ℕ) (fx : Found m h.used x) where
  pub detach-looks : Looks (detach_words m x) (Found m h.used) h.used (detach (view m) x)
  detach-looks = looks-detach (Found m h.used) (found-nodes m h.used) h.used m (view m) x fx (S.links.found x fx) (looks_itself m h.used room)

  -- the rule, of any forest that memory holds
  pub detach_forested : (F : Forest) → Forested m h F → (k : Key) (ls rs : List ℕ) → F k ≡ ls ++ x ∷ rs → (j : ℕ) → F (roots j) ≡ []
      → Forested (detach_words m x) h (detached F k ls x rs j)
  detach_forested F H k ls rs e j free = looks-holds _ _ _ _ _ detach-looks (holds-detach (view m) (Found m h.used) F H k ls x rs e j free)

  -- some forest, with the node alone
  pub detached-alone : (F : Forest) × Forested (detach_words m x) h F × (F (roots 0) ≡ x ∷ [])
  detached-alone =
      let F = forest_of m h S in
      let H = sound_forested m h S in
      let P = place (view m) (Found m h.used) F H x fx in (
        detached F P.key P.left x P.right 0,
        detach_forested F H P.key P.left P.right P.is 0 (sound-free m h S),
        put_same _ (roots 0) (x ∷ []),
      )

  detach-links : SoundLinks (view (detach_words m x)) (Found (detach_words m x) h.used)
  detach-links =
      let F = forest_of m h S in
      let H = sound_forested m h S in
      let P = place (view m) (Found m h.used) F H x fx in
      looks-sound _ _ _ _ _ detach-looks (holds-detach (view m) (Found m h.used) F H P.key P.left x P.right P.is 0 (sound-free m h S))
      (detach-acyclic (view m) (Found m h.used) x (no_cycle m h S))

  pub detach-sound : Sound (detach_words m x) h
  detach-sound = sound-kept m (detach_words m x) (kept-detach m x) h detach-links S

pub detach_ready : (m : List ℕ) (h : Header) → h.used * width ≤ length m → Ready m h → (x : ℕ) → Found m h.used x → Ready (detach_words m x) h
detach_ready m h room R x f = ready-kept m (detach_words m x) (kept-detach m x) h (detach-links m h room R.sound x f) R
