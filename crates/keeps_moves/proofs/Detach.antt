-- `checked_detach` and `checked_detach_children` as calls: DONE exactly where the node is found; then the forest after the call is the
-- rule's; and ready memory stays ready, whatever is answered.
use Rattle.std.specs.Prelude.{◌≡◌, refl, ◌↔◌, Bool, true, false, cond, not, List, [], ℕ, ◌+◌, ◌*◌, ◌≤◌, ◌<◌, eqb}
use Rattle.std.proofs.Common.{arith, eqb-true, eq-eqb}
use Rattle.std.proofs.Math.ListN.{length, get_or}
use Rattle.link.specs.Words.{width, PARENT}
use Rattle.link.proofs.OnlyLaws.{only-link, only_then, only-detach}
use Rattle.link.specs.Found.{Found, found_b}
use Rattle.link.specs.FoundLaws.{found_is, is_found}
use Rattle.link.specs.declared.header.Header.{Header}
use Rattle.rules.specs.Answers.{DONE, refusal, answer}
use Rattle.rules.specs.declared.answer.Answer.{Answer}
use Rattle.rules.specs.Lists.{In}
use Rattle.rules.specs.Links.{view}
use Rattle.rules.specs.Sound.{Ready}
use Rattle.rules.specs.Forest.{children, Forest, put}
use Rattle.forest.specs.Lists.{all_of}
use Rattle.forest.specs.Found.{found-nodes, found_some}
use Rattle.forest.specs.Bound.{found-few}
use Rattle.forest.specs.Looks.{Looks, looks_itself}
use Rattle.forest.specs.Surgery.{detach_words}
use Rattle.forest.specs.Kept.{Kept, ready-kept}
use Rattle.forest.specs.After.{looks-holds, looks-sound}
use Rattle.forest.specs.Build.{built, built-holds, built-free}
use Rattle.forest.specs.Whole.{Forested, no_cycle}
use Rattle.forest.specs.DetachWords.{kept-detach, detach_forested, detach_ready}
use Rattle.moves.specs.Detach.{detach, detach_children, name_no, detach_node, detach_children_node}
use Rattle.keeps_moves.specs.Rule.{Detaches, singles, DetachesChildren}
use Rattle.keeps_moves.specs.Past.{Past, past_at, detach-past}
use Rattle.keeps_moves.specs.Singles.{cut, cut-acyclic}
use Rattle.keeps_moves.proofs.Singles.{holds-singles}
use Rattle.keeps_moves.specs.Scatter.{kept-children, length-children, children-look}

pub name-done_exact : (m : List ℕ) (h : Header) (x : ℕ) → (name_no m h x ≡ DONE) ↔ Found m h.used x
unfolding name_no refusal
name-done_exact m h x = (λ e. found_is m h.used x (sure (found_b m h.used x) e), λ f. simp (is_found m h.used x f))
  where
    sure : (b : Bool) → refusal false false false false (not b) false false false ≡ DONE → b ≡ true
    sure true e = refl
    sure false e = absurd (omega arith)

module _ (m : List ℕ) (h : Header) (room : h.used * width ≤ length m) (R : Ready m h) (x : ℕ) where
  -- A change that is made where the node is found, or a refusal, which changes nothing.
  either : (P : List ℕ × Answer → Type 0) (w : List ℕ) → (Found m h.used x → P (w, answer h DONE 0)) → ((n : ℕ) → P (m, answer h n 0))
      → P (cond (eqb (name_no m h x) DONE) (w, answer h DONE 0) (m, answer h (name_no m h x) 0))
  either P w f g = by (eqb (name_no m h x) DONE) refl
    where
      by : (b : Bool) → eqb (name_no m h x) DONE ≡ b → P (cond b (w, answer h DONE 0) (m, answer h (name_no m h x) 0))
      by true e = f ((name-done_exact m h x).0 (eqb-true (name_no m h x) DONE e))
      by false e = g (name_no m h x)

  -- ---- detach

  pub detached-forest : name_no m h x ≡ DONE → (F F' : Forest) (j : ℕ) → Forested m h F → Detaches F x j F' → Forested (detach_node m h x).0 h F'
  unfolding detach_node detach detach_words
  detached-forest e F F' j H D =
      simp (eq-eqb (name_no m h x) DONE e)
      (rw D.is (detach_forested m h room R.sound x ((name-done_exact m h x).0 e) F H D.key D.left D.right D.stood j D.free))

  pub detached-ready : Ready (detach_node m h x).0 (detach_node m h x).1.header
  unfolding detach_node detach detach_words
  detached-ready = either (λ r. Ready r.0 r.1.header) (detach m x) (λ f. detach_ready m h room R x f) (λ _. R)

  -- The header stays, stamps and numbers stay, and no word beyond the slots in use is written.
  pub detached-header : (detach_node m h x).1.header ≡ h
  unfolding detach_node
  detached-header = either (λ r. r.1.header ≡ h) (detach m x) (λ _. refl) (λ _. refl)

  pub detached-length : length (detach_node m h x).0 ≡ length m
  unfolding detach_node detach detach_words
  detached-length = either (λ r. length r.0 ≡ length m) (detach m x)
      (λ _. (only_then (only-detach m x x) (only-link _ x PARENT 0 (omega arith) (omega arith))).size) (λ _. refl)

  pub detached-kept : Kept m (detach_node m h x).0
  unfolding detach_node detach detach_words
  detached-kept = either (λ r. Kept m r.0) (detach m x) (λ _. kept-detach m x) (λ _ s. (refl, refl))

  pub detached-past : (i : ℕ) → h.used * width ≤ i → get_or (detach_node m h x).0 i 0 ≡ get_or m i 0
  unfolding detach_node detach detach_words
  detached-past i l = either (λ r. get_or r.0 i 0 ≡ get_or m i 0) (detach m x)
      (λ f. past_at h.used m (detach_words m x) (detach-past m h R.sound x f) i l) (λ _. refl)

  -- ---- detach children

  module _ (f : Found m h.used x) (F : Forest) (H : Forested m h F) where
    live : (y : ℕ) → In y (F (children x)) → Found m h.used y
    live y t = (H.members.member (children x) y t).0

    few : length (F (children x)) < h.used + 1
    few = let w = found-few m h.used (F (children x)) (all_of (Found m h.used) (F (children x)) live) (H.members.distinct (children x)) in omega arith

    both : Looks (detach_children (h.used + 1) m x) (Found m h.used) h.used (cut (view m) x (F (children x)))
        × Past h.used m (detach_children (h.used + 1) m x)
    both =
        children-look (Found m h.used) (found-nodes m h.used) h.used (F (children x)) (h.used + 1) m (view m) x f
        ((H.chains (children x) f).first (found_some m h.used x f)) (H.chains (children x) f).segment
        (all_of (Found m h.used) (F (children x)) live) (H.members.distinct (children x)) few (looks_itself m h.used room)

    children_forested : (F' : Forest) → DetachesChildren F x F' → Forested (detach_children (h.used + 1) m x) h F'
    children_forested F' D =
        rw D.is (looks-holds _ _ _ _ _ both.0 (holds-singles (Found m h.used) F H.members x f D.number D.apart D.free (view m) H.chains))

    children-ready : (F' : Forest) → DetachesChildren F x F' → Ready (detach_children (h.used + 1) m x) h
    children-ready F' D =
        ready-kept m (detach_children (h.used + 1) m x) (kept-children (h.used + 1) m x) h
        (looks-sound _ _ _ _ _ both.0 (holds-singles (Found m h.used) F H.members x f D.number D.apart D.free (view m) H.chains)
        (cut-acyclic (view m) (Found m h.used) x (F (children x)) (no_cycle m h R.sound))) R

  -- There is a forest before the call, and one that the rule makes of it.
  pub children-rule : (F : Forest) × (F' : Forest) × Forested m h F × DetachesChildren F x F'
  children-rule =
      let F = built (view m) (Found m h.used) (found-nodes m h.used) R.sound.links in (
        F,
        singles (put F (children x) []) number (F (children x)),
        built-holds (view m) (Found m h.used) (found-nodes m h.used) R.sound.links,
        record {
          number = number;
          apart = λ c d e. omega arith;
          free = λ c t. built-free (view m) (Found m h.used) (found-nodes m h.used) R.sound.links (number c)
              (λ g. let b = g.upto in omega arith);
          is = refl;
        },
      )
    where
      -- past every slot in use
      number : ℕ → ℕ
      number c = (h.used + 1) * 65536 + c

  pub children-forest : name_no m h x ≡ DONE → (F F' : Forest) → Forested m h F → DetachesChildren F x F' → Forested (detach_children_node m h x).0 h F'
  unfolding detach_children_node
  children-forest e F F' H D = simp (eq-eqb (name_no m h x) DONE e) (children_forested ((name-done_exact m h x).0 e) F H F' D)

  pub children-stay-ready : Ready (detach_children_node m h x).0 (detach_children_node m h x).1.header
  unfolding detach_children_node
  children-stay-ready = either (λ r. Ready r.0 r.1.header) (detach_children (h.used + 1) m x)
      (λ f. let (F, F', H, D) = children-rule in children-ready f F H F' D) (λ _. R)

  pub children-header : (detach_children_node m h x).1.header ≡ h
  unfolding detach_children_node
  children-header = either (λ r. r.1.header ≡ h) (detach_children (h.used + 1) m x) (λ _. refl) (λ _. refl)

  pub children-length : length (detach_children_node m h x).0 ≡ length m
  unfolding detach_children_node
  children-length = either (λ r. length r.0 ≡ length m) (detach_children (h.used + 1) m x) (λ _. length-children (h.used + 1) m x) (λ _. refl)

  pub children-kept : Kept m (detach_children_node m h x).0
  unfolding detach_children_node
  children-kept = either (λ r. Kept m r.0) (detach_children (h.used + 1) m x) (λ _. kept-children (h.used + 1) m x) (λ _ s. (refl, refl))

  pub children-past : (i : ℕ) → h.used * width ≤ i → get_or (detach_children_node m h x).0 i 0 ≡ get_or m i 0
  unfolding detach_children_node
  children-past i l = either (λ r. get_or r.0 i 0 ≡ get_or m i 0) (detach_children (h.used + 1) m x)
      (λ f. let (F, F', H, D) = children-rule in past_at h.used m _ (both f F H).1 i l) (λ _. refl)
