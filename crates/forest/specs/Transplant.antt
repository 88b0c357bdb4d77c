-- The models of the siblings range, on nodes that sound memory has: with fuel for the range, naming a parent and joining a range
-- to its neighbours look as their views say; and one node detached, or put in a place, is the words of surgery.
use Rattle.std.specs.Prelude.{◌≡◌, ◌≢◌, length, Result, Ok}
use Rattle.std.proofs.Math.Path.{refl, subst}
use Rattle.std.proofs.Common.{sym, ap, ◌∙◌, inr, not-suc-le-zero, arith}
use mathlib.Core.List.{List, [], ◌∷◌}
use Prim.Native.Nat.{ℕ, zero, suc, ◌*◌, ◌≤◌, ◌<◌}
use borrow.Author.Tests.{eq-eqb, ne_eqb}
use Rattle.link.specs.Ids.{slot_of}
use Rattle.link.specs.Words.{width, PARENT, PREVIOUS, NEXT, FIRST, LAST, link, set_link, set_word}
use Rattle.link.specs.WordLaws.{either, link-some, link-other, set_link_none, set_link-some, set_word-word}
use Rattle.link.specs.Found.{Found}
use Rattle.link.specs.Relations.{connect_neighbors}
use Rattle.link.specs.Siblings.{detach_range, rewrite_parents, joined, transplanted, insert_with_neighbors, insert_last, insert_first}
use Rattle.link.specs.declared.header.Header.{Header}
use Rattle.link.specs.declared.siblings_range.ConsistencyError.{ConsistencyError}
use Rattle.rules.specs.Lists.{head_or, last_or, Off, All}
use Rattle.rules.specs.Links.{Link, par, prv, nxt, fst, lst, View, view}
use Rattle.rules.specs.Sound.{Sound, Linked}
use Rattle.rules.specs.Forest.{Chain, roots}
use Rattle.forest.specs.Lists.{last_in, all_in}
use Rattle.forest.specs.View.{upd}
use Rattle.forest.specs.Found.{Nodes, found_some}
use Rattle.forest.specs.Insert.{all_at, reparent, transplant}
use Rattle.forest.specs.Looks.{Looks, looks_write}
use Rattle.forest.specs.Surgery.{detach_words, place_words, NoneOr, looks-connect}
use Rattle.forest.specs.DetachWords.{detached-alone}

-- ---- one node

-- with no next it is the only one that is told its parent
pub rewrite-alone : (n : ℕ) (m : List ℕ) (x o : ℕ) → 2 ≤ n → x ≢ 0 → x ≢ o → link m x NEXT ≡ 0 → rewrite_parents n m x o ≡ (set_link m x PARENT o, Ok tt)
unfolding rewrite_parents
rewrite-alone zero m x o h xz xo e = absurd (not-suc-le-zero h)
rewrite-alone (suc zero) m x o h xz xo e = absurd (omega arith)
rewrite-alone (suc (suc n)) m x o h xz xo e = simp (ne_eqb x 0 xz, ne_eqb x o xo, eq-eqb _ 0 next)
  where
    next : link (set_link m x PARENT o) x NEXT ≡ 0
    next = link-other m x PARENT o x NEXT (omega arith) (omega arith) (λ (q : NEXT ≡ PARENT). omega arith) ∙ e

pub transplant-alone : (n : ℕ) (m : List ℕ) (x o p q : ℕ) → 2 ≤ n → x ≢ 0 → x ≢ o → link m x NEXT ≡ 0
    → transplanted n m x x o p q ≡ (place_words m x o p q, Ok tt)
unfolding transplanted place_words
transplant-alone n m x o p q h xz xo e =
    ap (λ (r : List ℕ × Result Unit ConsistencyError). (joined r.1 r.0 x x o p q, r.1)) (rewrite-alone n m x o h xz xo e)

-- writing none where none stands
write_none : (m : List ℕ) (x k : ℕ) → link m x k ≡ 0 → set_link m x k 0 ≡ m
write_none m x k e =
    either x (λ z. set_link_none m x k 0 z)
    (λ h. set_link-some m x k 0 h ∙ ap (set_word m (slot_of x) k) (sym (sym (link-some m x k h) ∙ e)) ∙ set_word-word m (slot_of x) k)

connect_none : (m : List ℕ) → connect_neighbors m 0 0 0 ≡ m
unfolding connect_neighbors
connect_none m =
    set_link_none _ 0 LAST _ refl ∙ set_link_none _ 0 FIRST _ refl ∙ set_link_none _ 0 PREVIOUS _ refl ∙ set_link_none m 0 NEXT 0 refl

-- a node that stands alone is left where it is
pub detach-nothing : (m : List ℕ) (x : ℕ) → link m x PARENT ≡ 0 → link m x PREVIOUS ≡ 0 → link m x NEXT ≡ 0 → detach_range m x x ≡ m
unfolding detach_range
detach-nothing m x a b c = rw (write_none m x PREVIOUS b, write_none m x NEXT c, a, b, c) (connect_none m)

pub insert-alone : (n : ℕ) (m : List ℕ) (x o p q : ℕ) → 2 ≤ n → x ≢ 0 → p ≢ x → q ≢ x → o ≢ x
    → link m x PARENT ≡ 0 → link m x PREVIOUS ≡ 0 → link m x NEXT ≡ 0 → insert_with_neighbors n m x o p q ≡ (place_words m x o p q, Ok tt)
unfolding insert_with_neighbors
insert-alone n m x o p q h xz px qx ox a b c =
    simp (ne_eqb p x px, ne_eqb q x qx, ne_eqb o x ox, detach-nothing m x a b c) (transplant-alone n m x o p q h xz (λ e. ox (sym e)) c)

pub last-alone : (n : ℕ) (m : List ℕ) (x o : ℕ) → 2 ≤ n → x ≢ 0 → x ≢ o → link m x NEXT ≡ 0
    → insert_last n m x o ≡ (place_words m x o (link m o LAST) 0, Ok tt)
unfolding insert_last
last-alone n m x o = transplant-alone n m x o (link m o LAST) 0

pub first_alone : (n : ℕ) (m : List ℕ) (x o : ℕ) → 2 ≤ n → x ≢ 0 → x ≢ o → link m x NEXT ≡ 0
    → insert_first n m x o ≡ (place_words m x o 0 (link m o FIRST), Ok tt)
unfolding insert_first
first_alone n m x o = transplant-alone n m x o 0 (link m o FIRST)

-- in sound memory a node taken out of its chain has no next
pub detached-next : (m : List ℕ) (h : Header) → h.used * width ≤ length m → Sound m h → (x : ℕ) → Found m h.used x
    → link (detach_range m x x) x NEXT ≡ 0
unfolding detach_words
detached-next m h room S x f =
    let (F, H, alone) = detached-alone m h room S x f in
    sym (link-other (detach_range m x x) x PARENT 0 x NEXT (omega arith) (omega arith) (λ (q : NEXT ≡ PARENT). omega arith))
    ∙ (subst (Chain (view (detach_words m x)) 0) alone (H.chains (roots 0) tt)).segment.2

pub detach_rewrites : (m : List ℕ) (h : Header) → h.used * width ≤ length m → Sound m h → (x : ℕ) → Found m h.used x
    → (n : ℕ) → 2 ≤ n → rewrite_parents n (detach_range m x x) x 0 ≡ (detach_words m x, Ok tt)
unfolding detach_words
detach_rewrites m h room S x f n l =
    let some : x ≢ 0 = found_some m h.used x f in
    rewrite-alone n (detach_range m x x) x 0 l some some (detached-next m h room S x f)

-- ---- a range

reparent_none : (v : View) (o : ℕ) → reparent v [] o ≡ v
unfolding all_at
reparent_none v o = λ i k. at-link k i
  where
    at-link : (k : Link) → reparent v [] o k ≡ v k
    at-link par = refl
    at-link prv = refl
    at-link nxt = refl
    at-link fst = refl
    at-link lst = refl

reparent-more : (v : View) (x : ℕ) (ms : List ℕ) (o : ℕ) → reparent v (x ∷ ms) o ≡ reparent (upd v par x o) ms o
unfolding all_at
reparent-more v x ms o = λ i k. at-link k i
  where
    at-link : (k : Link) → reparent v (x ∷ ms) o k ≡ reparent (upd v par x o) ms o k
    at-link par = refl
    at-link prv = refl
    at-link nxt = refl
    at-link fst = refl
    at-link lst = refl

module _ (live : ℕ → Type 0) (N : Nodes live) (used : ℕ) where
  pub looks_rewrite : (ms : List ℕ) (n : ℕ) (m : List ℕ) (v : View) (c o : ℕ) → c ≡ head_or ms 0 → Linked (v nxt) ms → All live ms → Off o ms
      → length ms < n
      → Looks m live used v → ((rewrite_parents n m c o).1 ≡ Ok tt) × Looks (rewrite_parents n m c o).0 live used (reparent v ms o)
  unfolding rewrite_parents
  looks_rewrite ms zero m v c o e l a w h L = absurd (not-suc-le-zero h)
  looks_rewrite [] (suc n) m v c o e l a w h L = simp (eq-eqb c 0 e) (refl, rw (reparent_none v o) L)
  looks_rewrite (x ∷ ms) (suc n) m v c o e l a w h L =
      simp (ne_eqb c 0 (λ z. N.some x a.0 (sym e ∙ z)), ne_eqb c o (λ z. w.0 (sym z ∙ e)))
      (rw (reparent-more v x ms o)
      (looks_rewrite ms n (set_link m c PARENT o) (upd v par x o) (link (set_link m c PARENT o) c NEXT) o next l.1 a.1 w.1 (omega arith) told))
    where
      first : Looks (set_link m x PARENT o) live used (upd v par x o)
      first = looks_write m live N used v par x o (inr a.0) L

      told : Looks (set_link m c PARENT o) live used (upd v par x o)
      told = rw e first

      next : link (set_link m c PARENT o) c NEXT ≡ head_or ms 0
      next = ap (λ (z : ℕ). link (set_link m z PARENT o) z NEXT) e ∙ first.sees nxt x a.0 ∙ l.0

  pub looks-transplant : (x : ℕ) (ms : List ℕ) (n : ℕ) (m : List ℕ) (v : View) (o p q : ℕ) → Linked (v nxt) (x ∷ ms) → All live (x ∷ ms)
      → Off o (x ∷ ms)
      → length (x ∷ ms) < n → NoneOr live o → NoneOr live p → NoneOr live q → Looks m live used v
      → ((transplanted n m x (last_or x ms) o p q).1 ≡ Ok tt) × Looks (transplanted n m x (last_or x ms) o p q).0 live used (transplant v o p q (x ∷ ms))
  unfolding transplanted transplant
  looks-transplant x ms n m v o p q l a w h ho hp hq L =
      let (e, K) = looks_rewrite (x ∷ ms) n m v x o refl l a w h L in (
        e,
        subst (λ (s : Result Unit ConsistencyError). Looks (joined s (rewrite_parents n m x o).0 x (last_or x ms) o p q) live used (transplant v o p q (x ∷ ms)))
            (sym e)
            (looks-connect live N used _ _ o (last_or x ms) q ho (inr (all_in live (x ∷ ms) a (last_or x ms) (last_in x ms))) hq (looks-connect live N used _ _ o p x ho hp (inr a.0) K)),
      )
