-- A walk's state behind its pointer: written where the number is DONE, else left; and what a call answered, once its state is behind a pointer.
-- From the definitions alone.
use Rattle.std.specs.Prelude.{◌≡◌, List, [], ◌∷◌, ℕ}
use Rattle.std.proofs.Common.{ap, ◌∙◌, eq-eqb, ne_eqb}
use Rattle.link.specs.declared.header.Header.{Header}
use Rattle.rules.specs.Answers.{DONE, reply}
use Rattle.rules.specs.declared.answer.Reply.{Reply}
use Rattle.walk.specs.Edges.{mark_of}
use Rattle.walk.specs.Codes.{edge_word}
use Rattle.walk.specs.Walks.{Started, Walked, started, walked}
use Rattle.walk.specs.declared.walk.Traverse.{Traverse}
use Rattle.lift_c.specs.State.{walk_of, state_after, start_call, walk_call}

module _ (m : List ℕ) (used number : ℕ) (w : Traverse) (state : List ℕ) where
  pub state-written : {edge mark : ℕ} → number ≡ DONE → edge ≡ edge_word m used w.next → mark ≡ mark_of w.next
      → ◌≡◌ {A = List ℕ} (w.root ∷ edge ∷ mark ∷ []) (state_after m used number w state)
  unfolding state_after
  state-written e p q = simp (eq-eqb number DONE e, p, q)

  pub state-left : (number ≡ DONE → ⊥) → state ≡ state_after m used number w state
  unfolding state_after
  state-left n = simp (ne_eqb number DONE n)

pub start-packed : (m : List ℕ) (root : ℕ) (state : List ℕ) {after : List ℕ} {h h' : Header} {s : Started} → s ≡ started m h root → h ≡ h'
    → after ≡ state_after m h.used s.number s.walk state → ◌≡◌ {A = List ℕ × ℕ} (after, s.number) (start_call m h' root state)
unfolding start_call
start-packed m root state {after} {h} {h'} {s} e f p =
    ap (λ (l : List ℕ). answered l s) p
    ∙ ap (λ (t : Started). answered (state_after m h.used t.number t.walk state) t) e
    ∙ ap (λ (k : Header). start_call m k root state) f
  where
    answered : List ℕ → Started → List ℕ × ℕ
    answered l t = (l, t.number)

pub walk-packed : (m state : List ℕ) (k : ℕ) (list : List ℕ) {after list' : List ℕ} {h h' : Header} {from : Traverse} {a : Walked}
    → (list', a) ≡ walked m h from k list → h ≡ h' → from ≡ walk_of state → after ≡ state_after m h.used a.number a.walk state
    → ◌≡◌ {A = List ℕ × List ℕ × Reply} (list', after, reply a.number a.result) (walk_call m h' state k list)
unfolding walk_call
walk-packed m state k list {after} {list'} {h} {h'} {from} {a} e f g p =
    ap (λ (l : List ℕ). answered l (list', a)) p
    ∙ ap (λ (w : List ℕ × Walked). answered (state_after m h.used w.1.number w.1.walk state) w) e
    ∙ ap (λ (t : Traverse). whole (walked m h t k list)) g
    ∙ ap (λ (q : Header). walk_call m q state k list) f
  where
    answered : List ℕ → List ℕ × Walked → List ℕ × List ℕ × Reply
    answered l w = (w.0, l, reply w.1.number w.1.result)

    whole : List ℕ × Walked → List ℕ × List ℕ × Reply
    whole w = answered (state_after m h.used w.1.number w.1.walk state) w
