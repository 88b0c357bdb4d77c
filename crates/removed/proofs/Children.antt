-- `remove_children`, on ready memory and a found node: all below it is gone, children first, left to right; it stays and has no
-- children; every other chain is as before. The loop has turns to spare.
use Rattle.std.specs.Prelude.{◌≡◌, length}
use Rattle.std.proofs.Common.{sym, ◌∙◌, subst, arith}
use Rattle.std.proofs.Math.Path.{ap}
use mathlib.Core.List.{List}
use Prim.Native.Nat.{ℕ, ◌*◌, ◌≤◌}
use Rattle.link.specs.Words.{width}
use Rattle.link.specs.Found.{Found}
use Rattle.link.specs.FoundLaws.{is_found}
use Rattle.link.specs.declared.header.Header.{Header}
use Rattle.rules.specs.Answers.{DONE, answer}
use Rattle.rules.specs.declared.answer.Answer.{Answer}
use Rattle.rules.specs.Sound.{Ready}
use Rattle.rules.specs.Forest.{children, Forest, dropped}
use Rattle.rules.specs.Tree.{pre, post}
use Rattle.forest.specs.Whole.{Forested, sound_forested}
use Rattle.removal.specs.Descendants.{remove_descendants, turns_for}
use Rattle.removal.specs.Remove.{descendants_removed, remove_children}
use Rattle.removal.specs.RemoveLaws.{when-found}
use Rattle.removed.specs.Gone.{Removes}
use Rattle.removed.specs.GoneLaws.{removes_by}
use Rattle.removed.specs.Stands.{stands_forested, stands-ready}
use Rattle.removed.proofs.Below.{below-tree, Swept, swept, swept-acyclic}

module _ (m : List ℕ) (h : Header) (room : h.used * width ≤ length m) (R : Ready m h) (x : ℕ) (f : Found m h.used x) where
  S : Swept m h room R x f (below-tree m h room R x f)
  S = swept m h room R x f

  -- 2 × used turns are enough, and more change nothing.
  pub children-turns : (n : ℕ) → 2 * h.used ≤ n → remove_descendants n m h x x ≡ descendants_removed m h x
  children-turns n l = S.is n l ∙ sym (S.is (turns_for h.used) (omega arith))

  is : remove_children m h x ≡ (S.words, answer S.head DONE 0)
  unfolding remove_children
  is =
      when-found m h x (descendants_removed m h x) (is_found m h.used x f)
      ∙ ap (λ (p : List ℕ × Header). (p.0, answer p.1 DONE 0)) (S.is (turns_for h.used) (omega arith))

  -- All below it is gone, children first, left to right.
  pub children_removes : Removes m h R (post (below-tree m h room R x f)) (remove_children m h x)
  children_removes =
      removes_by m h R _ (remove_children m h x) S.words S.head is S.gone
      (stands-ready S.stands _ (S.holds _ (sound_forested m h R.sound)) (swept-acyclic m h room R x f _ S _ (sound_forested m h R.sound)))

  -- It has no children; every other chain is as before.
  pub children-forest : (F : Forest) → Forested m h F
      → Forested (remove_children m h x).0 (remove_children m h x).1.header (dropped F (pre (below-tree m h room R x f)) (children x))
  children-forest F H =
      subst (λ (r : List ℕ × Answer). Forested r.0 r.1.header (dropped F (pre (below-tree m h room R x f)) (children x))) (sym is)
      (stands_forested S.stands _ (S.holds F H))
