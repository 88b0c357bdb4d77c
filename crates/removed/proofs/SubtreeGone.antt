-- `remove_subtree`, on ready memory and a found node: the node with all below it is gone, children first, left to right, the node
-- last; its chain closes behind it, and every other chain is as before.
use Rattle.std.specs.Prelude.{◌≡◌, length}
use Rattle.std.proofs.Common.{sym, ◌∙◌, arith}
use Rattle.std.proofs.Math.Path.{ap, subst}
use mathlib.Core.List.{List, [], ◌∷◌, ◌++◌, append_assoc, append-nil}
use Prim.Native.Nat.{ℕ, ◌*◌, ◌≤◌}
use Rattle.link.specs.Words.{width}
use Rattle.link.specs.Found.{Found}
use Rattle.link.specs.FoundLaws.{is_found}
use Rattle.link.specs.declared.header.Header.{Header}
use Rattle.rules.specs.Answers.{DONE, answer}
use Rattle.rules.specs.declared.answer.Answer.{Answer}
use Rattle.rules.specs.Links.{par, nxt, fst, view}
use Rattle.rules.specs.Sound.{Ready}
use Rattle.rules.specs.Forest.{Key, roots, Forest, Holds, detached, dropped}
use Rattle.rules.specs.Tree.{Tree, top, pre, post, Hang}
use Rattle.forest.specs.Lists.{all_in, all_map}
use Rattle.forest.specs.View.{detach}
use Rattle.forest.specs.Found.{found-nodes}
use Rattle.forest.specs.Members.{put_same}
use Rattle.forest.specs.Places.{place}
use Rattle.forest.specs.Edits.{Without}
use Rattle.forest.specs.Acyclic.{Acyclic}
use Rattle.forest.specs.Looks.{Looks}
use Rattle.forest.specs.After.{holds_see}
use Rattle.forest.specs.Trees.{Below}
use Rattle.forest.specs.Subtree.{holds-without}
use Rattle.forest.specs.Surgery.{detach_words}
use Rattle.forest.specs.DetachWords.{kept-detach, detach_forested}
use Rattle.forest.specs.Whole.{Forested, forest_of, sound_forested, sound-free, no_cycle, tree_of_lem}
use Rattle.arena.specs.FreeList.{free_node}
use Rattle.removal.specs.Descendants.{turns_for}
use Rattle.removal.specs.Remove.{descendants_removed, subtree_removed, remove_subtree}
use Rattle.removal.specs.RemoveLaws.{when-found}
use Rattle.removed.specs.Gone.{joins, joining, Gone, Removes}
use Rattle.removed.specs.GoneLaws.{joining-append, gone-kept, gone-then, removes_by}
use Rattle.removed.specs.Stands.{Stands, stands_live, stands_forested, stands-ready, stands-freed, stands-gone, acyclic-left}
use Rattle.removed.proofs.Below.{below-tree, Swept, sweep}
use Rattle.removed.specs.Alone.{detached-words, detach-length, alone-room, alone-ready, alone-looks, alone-slots}
use Rattle.removed.specs.TreeStays.{hang_see, detach_fst, detach_hang}

module _ (m : List ℕ) (h : Header) (room : h.used * width ≤ length m) (R : Ready m h) (x : ℕ) (f : Found m h.used x) where
  abbrev t : Tree
  t = below-tree m h room R x f

  abbrev b : Below (view m) (Found m h.used) x
  b = tree_of_lem m h R.sound x f

  -- ---- the node alone

  abbrev m₁ : List ℕ
  m₁ = detach_words m x

  abbrev live₁ : ℕ → Type 0
  live₁ = Found m₁ h.used

  room₁ : h.used * width ≤ length m₁
  room₁ = alone-room m h room R x f

  abbrev R₁ : Ready m₁ h
  R₁ = alone-ready m h room R x f

  L : Looks m₁ (Found m h.used) h.used (detach (view m) x)
  L = alone-looks m h room R x f

  f₁ : live₁ x
  f₁ = (L.alive x).0 f

  -- the tree below it is as before
  tops₁ : view m₁ fst x ≡ top t
  tops₁ =
      L.sees fst x f
      ∙ detach_fst (view m) (Found m h.used) (found-nodes m h.used) R.sound.links (no_cycle m h R.sound) x f t b.hangs b.lives b.once
      ∙ b.tops

  hangs₁ : Hang (view m₁) x t
  hangs₁ =
      hang_see (detach (view m) x) (view m₁) x t
      (λ y i. let l = all_in (Found m h.used) (pre t) b.lives y i in (L.sees par y l, L.sees nxt y l, L.sees fst y l))
      (detach_hang (view m) (Found m h.used) (found-nodes m h.used) R.sound.links (no_cycle m h R.sound) x f t b.hangs b.lives b.once)

  S : Swept m₁ h room₁ R₁ x f₁ t
  S = sweep m₁ h room₁ R₁ x f₁ t tops₁ hangs₁ (all_map (Found m h.used) live₁ (λ y l. (L.alive y).0 l) (pre t) b.lives) b.once

  -- ---- all below it is freed, then the node

  abbrev left : ℕ → Type 0
  left = Without live₁ (x ∷ pre t)

  last : Without live₁ (pre t) x
  last = (f₁, b.once.0)

  words : List ℕ
  words = (free_node S.words S.head x).0

  head : Header
  head = (free_node S.words S.head x).1

  order : (R₁.sound.free.slots ++ joining (post t)) ++ joins x ≡ R.sound.free.slots ++ joining (post t ++ x ∷ [])
  order =
      append_assoc R₁.sound.free.slots (joining (post t)) (joins x)
      ∙ ap (λ (fs : List ℕ). fs ++ (joining (post t) ++ joins x)) (alone-slots m h room R x f)
      ∙ ap (λ (fs : List ℕ). R.sound.free.slots ++ fs)
      (ap (λ (fs : List ℕ). joining (post t) ++ fs) (sym (append-nil (joins x))) ∙ sym (joining-append (post t) (x ∷ [])))

  stands : Stands words head left S.after (R.sound.free.slots ++ joining (post t ++ x ∷ []))
  unfolding words head
  stands = subst (Stands words head left S.after) order
      (stands_live (stands-freed S.stands x last) left (λ y. (λ l. (l.0.0, (l.1.0, l.0.1)), λ l. ((l.0, l.1.1), (l.1.0, tt)))))

  gone : Gone m h (post t ++ x ∷ []) words head
  unfolding words head
  gone = gone-then (gone-then (gone-kept m m₁ h (detach-length m x) (kept-detach m x)) S.gone) (stands-gone S.stands x last)

  holds : (F : Forest) → Forested m₁ h F → (j : ℕ) → F (roots j) ≡ x ∷ [] → Holds S.after left (dropped F (x ∷ pre t) (roots j))
  holds F H j alone =
      holds_see (view m₁) S.after left (dropped F (x ∷ pre t) (roots j)) (λ k y l. S.others k y l.1.0 l.1.1)
      (holds-without (view m₁) live₁ F H x f₁ t tops₁ hangs₁ j alone)

  acyclic : (F : Forest) → Holds S.after left F → Acyclic S.after left
  acyclic F H =
      acyclic-left (view m₁) S.after live₁ left F (λ y l. l.0) (λ y l. S.others par y l.1.0 l.1.1) H (no_cycle m₁ h R₁.sound)

  is : remove_subtree m h x ≡ (words, answer head DONE 0)
  unfolding remove_subtree subtree_removed words head
  is =
      when-found m h x (subtree_removed m h x) (is_found m h.used x f)
      ∙ ap (λ (w : List ℕ). let r = descendants_removed w h x in let q = free_node r.0 r.1 x in (q.0, answer q.1 DONE 0)) (detached-words m h room R x f)
      ∙ ap (λ (r : List ℕ × Header). let q = free_node r.0 r.1 x in (q.0, answer q.1 DONE 0)) (S.is (turns_for h.used) (omega arith))

  -- The node with all below it is gone, children first, left to right, the node last.
  pub subtree_removes : Removes m h R (post t ++ x ∷ []) (remove_subtree m h x)
  subtree_removes =
      let F = forest_of m h R.sound in
      let H = sound_forested m h R.sound in
      let P = place (view m) (Found m h.used) F H x f in
      let F₁ = detached F P.key P.left x P.right 0 in
      let K = holds F₁ (detach_forested m h room R.sound x f F H P.key P.left P.right P.is 0 (sound-free m h R.sound)) 0 (put_same _ (roots 0) (x ∷ [])) in
      removes_by m h R (post t ++ x ∷ []) (remove_subtree m h x) words head is gone (stands-ready stands _ K (acyclic _ K))

  -- It leaves its chain and is alone, and then goes with all below it: its chain closes, and every other chain is as before.
  pub subtree-forest : (F : Forest) → Forested m h F → (k : Key) (ls rs : List ℕ) → F k ≡ ls ++ x ∷ rs → (j : ℕ) → F (roots j) ≡ []
      → Forested (remove_subtree m h x).0 (remove_subtree m h x).1.header (dropped (detached F k ls x rs j) (x ∷ pre t) (roots j))
  subtree-forest F H k ls rs e j free =
      subst (λ (r : List ℕ × Answer). Forested r.0 r.1.header (dropped (detached F k ls x rs j) (x ∷ pre t) (roots j))) (sym is)
      (stands_forested stands _ (holds (detached F k ls x rs j) (detach_forested m h room R.sound x f F H k ls rs e j free) j (put_same _ (roots j) (x ∷ []))))
