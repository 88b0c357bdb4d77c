-- The children of a node take a place in another chain, on words: the range from the first to the last is taken out, told its new
-- parent, and tied to its neighbours. Memory then holds the forest in which they stand there, in order, and the node has none.
use Rattle.std.specs.Prelude.{◌≡◌, refl, ◌≢◌}
use Rattle.std.proofs.Math.Path.{sym, ap, subst}
use Rattle.std.proofs.Common.{◌∙◌, inl, inr, arith, ne_eqb}
use mathlib.Core.List.{List, [], ◌∷◌, ◌++◌}
use Prim.Native.Nat.{ℕ, ◌<◌}
use Rattle.std.proofs.Math.Decide.{ℕ_discrete}
use Rattle.std.proofs.Math.ListN.{length}
use Rattle.link.specs.Words.{PARENT, PREVIOUS, NEXT, link, set_link}
use Rattle.link.specs.WordLaws.{link-other}
use Rattle.link.specs.Only.{Only}
use Rattle.link.proofs.OnlyLaws.{only_then, only-detach, only-transplant}
use Rattle.link.specs.Relations.{connect_neighbors}
use Rattle.link.specs.Siblings.{detach_range, transplanted}
use Rattle.link.specs.declared.header.Header.{Header}
use Rattle.rules.specs.Lists.{head_or, last_or, Off, All}
use Rattle.rules.specs.Links.{Link, par, prv, nxt, fst, lst, View}
use Rattle.rules.specs.Sound.{Linked}
use Rattle.rules.specs.Forest.{Key, children, owner, Forest, Segment, Chain, OwnerIn, Holds, put, moved}
use Rattle.follow.specs.Point.{at, at_same, at_other}
use Rattle.forest.specs.Lists.{all_of, all_in, last_in, last_some}
use Rattle.forest.specs.View.{upd, connect}
use Rattle.forest.specs.Found.{Nodes}
use Rattle.forest.specs.Segments.{seg-last}
use Rattle.forest.specs.Members.{put_elim, zero_off}
use Rattle.forest.specs.Places.{left-live, right-live, owner-live}
use Rattle.forest.specs.Insert.{all_at, transplant}
use Rattle.forest.specs.Hoist.{childless, holds-hoist}
use Rattle.forest.specs.Looks.{Looks, looks_write}
use Rattle.forest.specs.Surgery.{looks-connect}
use Rattle.forest.specs.Kept.{Kept, only_kept}
use Rattle.forest.specs.Transplant.{looks-transplant}
use Rattle.removal.specs.Remove.{hoisted}
use Rattle.removed.specs.Stands.{Stands, stands-links}

-- ---- the range of children taken out

-- a write of none where none stands, and at none, is not seen
at_none : (f : ℕ → ℕ) (a y : ℕ) → f a ≡ 0 → y ≢ 0 → at (at f a 0) 0 0 y ≡ f y
at_none f a y e z = at_other _ 0 0 y z ∙ go (ℕ_discrete y a)
  where
    go : Dec (y ≡ a) → at f a 0 y ≡ f y
    go (yes q) = rw q (at_same f a 0 ∙ sym e)
    go (no n) = at_other f a 0 y n

seg-linked : (p q n : ℕ → ℕ) (o b : ℕ) (xs : List ℕ) → Segment p q n o b xs 0 → Linked n xs
seg-linked p q n o b [] s = tt
seg-linked p q n o b (x ∷ xs) s = (s.2, seg-linked p q n o x xs s.3)

module _ (live : ℕ → Type 0) (N : Nodes live) (used : ℕ) where
  looks_range : (m : List ℕ) (v : View) (x a : ℕ) (cs : List ℕ) → live x → Chain v x (a ∷ cs) → All live (a ∷ cs) → Looks m live used v
      → Looks (detach_range m a (last_or a cs)) live used (childless v x)
  unfolding detach_range connect
  looks_range m v x a cs lx c l L = rw (parent, previous, next) (record {
    room = tied.room;
    alive = tied.alive;
    sees = λ k y w. tied.sees k y w ∙ same k y (N.some y w);
  })
    where
      z : ℕ
      z = last_or a cs

      lz : live z
      lz = all_in live (a ∷ cs) l z (last_in a cs)

      ends : (v par z ≡ x) × (v nxt z ≡ 0)
      ends = seg-last (v par) (v prv) (v nxt) x 0 a cs 0 c.segment

      parent : link m a PARENT ≡ x
      parent = L.sees par a l.0 ∙ c.segment.0

      previous : link m a PREVIOUS ≡ 0
      previous = L.sees prv a l.0 ∙ c.segment.1

      next : link (set_link m a PREVIOUS 0) z NEXT ≡ 0
      next = link-other m a PREVIOUS 0 z NEXT (omega arith) (omega arith) (λ (e : NEXT ≡ PREVIOUS). omega arith) ∙ L.sees nxt z lz ∙ ends.1

      u : View
      u = upd (upd v prv a 0) nxt z 0

      tied : Looks (connect_neighbors (set_link (set_link m a PREVIOUS 0) z NEXT 0) x 0 0) live used (connect u x 0 0)
      tied =
          looks-connect live N used _ u x 0 0 (inr lx) (inl refl) (inl refl)
          (looks_write (set_link m a PREVIOUS 0) live N used _ nxt z 0 (inr lz) (looks_write m live N used v prv a 0 (inr l.0) L))

      same : (k : Link) (y : ℕ) → y ≢ 0 → connect u x 0 0 k y ≡ childless v x k y
      same par y n = refl
      same prv y n = at_none (v prv) a y c.segment.1 n
      same nxt y n = at_none (v nxt) z y ends.1 n
      same fst y n = refl
      same lst y n = refl

-- ---- the children in their place

hoists : (steps : ℕ) (m : List ℕ) (first last parent previous next : ℕ) → first ≢ 0 → last ≢ 0
    → hoisted steps m first last parent previous next ≡ (transplanted steps (detach_range m first last) first last parent previous next).0
unfolding hoisted
hoists steps m first last parent previous next a b = simp (ne_eqb first 0 a, ne_eqb last 0 b)

-- a chain that gets what it has
put_as_is : (F : Forest) (k : Key) (xs : List ℕ) → F k ≡ xs → (k' : Key) → put F k xs k' ≡ F k'
put_as_is F k xs e = put_elim (λ k' ys. ys ≡ F k') F k xs (sym e) (λ k' _. refl)

module _ (m : List ℕ) (h : Header) (live : ℕ → Type 0) (N : Nodes live) (v : View) (fs : List ℕ) (S : Stands m h live v fs) (F : Forest) (H : Holds v live F)
    (x : ℕ) (lx : live x) (k : Key) (ls rs : List ℕ) (e : F k ≡ ls ++ rs) (ok : OwnerIn live k) (ki : k ≢ children x) (steps : ℕ) where
  abbrev place : List ℕ → List ℕ
  place ms = hoisted steps m (head_or ms 0) (last_or 0 ms) (owner k) (last_or 0 ls) (head_or rs 0)

  pub record Hoist (ms : List ℕ) : Type 0 where
    pub after : View
    pub stands : Stands (place ms) h live after fs
    pub holds : Holds after live (moved F k ls ms rs (children x))
    pub parents : (y : ℕ) → after par y ≡ all_at (v par) ms (owner k) y
    pub size : length (place ms) ≡ length m
    pub kept : Kept m (place ms)

  none : F (children x) ≡ [] → Hoist []
  unfolding hoisted all_at
  none c = record {
    after = v;
    stands = S;
    holds = subst (Holds v live) (λ i k'. sym (same k') i) H;
    parents = λ y. refl;
    size = refl;
    kept = λ s. (refl, refl);
  }
    where
      inner : (k' : Key) → put F k (ls ++ rs) k' ≡ F k'
      inner = put_as_is F k (ls ++ rs) e

      same : (k' : Key) → put (put F k (ls ++ rs)) (children x) [] k' ≡ F k'
      same k' = put_as_is (put F k (ls ++ rs)) (children x) [] (inner (children x) ∙ c) k' ∙ inner k'

  some : (a : ℕ) (cs : List ℕ) → F (children x) ≡ a ∷ cs → Off (owner k) (a ∷ cs) → length (a ∷ cs) < steps → Hoist (a ∷ cs)
  unfolding transplant connect
  some a cs c apart fuel = record {
    after = transplant (childless v x) (owner k) (last_or 0 ls) (head_or rs 0) (a ∷ cs);
    stands = subst (λ (w : List ℕ). Stands w h live (transplant (childless v x) (owner k) (last_or 0 ls) (head_or rs 0) (a ∷ cs)) fs) (sym is)
        (stands-links S only.1 looks);
    holds = holds-hoist v live F H x lx k ls rs e ok a cs c ki;
    parents = λ y. refl;
    size = ap length is ∙ only.1.size;
    kept = subst (Kept m) (sym is) (only_kept only.1);
  }
    where
      z : ℕ
      z = last_or a cs

      nonzero : Off 0 (a ∷ cs)
      nonzero = subst (Off 0) c (zero_off live F H.members (children x))

      chain : Chain v x (a ∷ cs)
      chain = subst (Chain v x) c (H.chains (children x) lx)

      lives : All live (a ∷ cs)
      lives = all_of live (a ∷ cs) (λ y t. (H.members.member (children x) y (rw c t)).0)

      is : place (a ∷ cs) ≡ (transplanted steps (detach_range m a z) a z (owner k) (last_or 0 ls) (head_or rs 0)).0
      is = hoists steps m a z (owner k) (last_or 0 ls) (head_or rs 0) (λ q. nonzero.0 (sym q)) (last_some a cs nonzero)

      only : (ids : List ℕ) × Only ids m (transplanted steps (detach_range m a z) a z (owner k) (last_or 0 ls) (head_or rs 0)).0
      only = (_, only_then (only-detach m a z) (only-transplant steps (detach_range m a z) a z (owner k) (last_or 0 ls) (head_or rs 0)))

      looks : Looks (transplanted steps (detach_range m a z) a z (owner k) (last_or 0 ls) (head_or rs 0)).0 live h.used
          (transplant (childless v x) (owner k) (last_or 0 ls) (head_or rs 0) (a ∷ cs))
      looks =
          (looks-transplant live N h.used a cs steps (detach_range m a z) (childless v x) (owner k) (last_or 0 ls) (head_or rs 0)
          (seg-linked (v par) (v prv) (v nxt) x 0 (a ∷ cs) chain.segment) lives apart fuel
          (owner-live live k ok) (left-live v live F H k ls rs e) (right-live v live F H k ls rs e)
          (looks_range live N h.used m v x a cs lx chain lives S.looks)).1

  pub hoist : Off (owner k) (F (children x)) → length (F (children x)) < steps → Hoist (F (children x))
  hoist = go (F (children x)) refl
    where
      go : (ms : List ℕ) → F (children x) ≡ ms → Off (owner k) ms → length ms < steps → Hoist ms
      go [] c apart fuel = none c
      go (a ∷ cs) c apart fuel = some a cs c apart fuel
