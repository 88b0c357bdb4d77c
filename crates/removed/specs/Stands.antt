-- Memory on the way through a removal: at the live nodes it looks like a view, live slots have kind 0, and the free chain is known.
-- Ready memory stands so; each change of links, and each node freed, leads to memory that does; and memory that does, over links
-- that hold a forest without cycles, is ready.
use Rattle.std.specs.Prelude.{◌≡◌, ◌≢◌, ◌⊎◌, ◌↔◌, List, [], ◌∷◌, ◌++◌, ℕ, ◌*◌, ◌≤◌, length}
use Rattle.std.proofs.Common.{sym, ◌∙◌, subst, inl, inr, arith}
use mathlib.Core.HLevel.{¬_prop, ×_prop, Unit-prop}
use Rattle.link.specs.Ids.{slot_of}
use Rattle.link.specs.Words.{width, NUMBER}
use Rattle.link.specs.WordLaws.{link-some}
use Rattle.link.specs.Found.{Found}
use Rattle.link.specs.Only.{Only}
use Rattle.link.specs.declared.header.Header.{Header}
use Rattle.rules.specs.Lists.{In, Off}
use Rattle.rules.specs.Links.{Link, par, prv, nxt, fst, lst, word_of, View, view}
use Rattle.rules.specs.Sound.{Ready}
use Rattle.rules.specs.Forest.{Forest, Holds}
use Rattle.forest.specs.Lists.{in-dec, off-not_in}
use Rattle.forest.specs.View.{SameOn}
use Rattle.forest.specs.Found.{Nodes}
use Rattle.follow.specs.Follow.{ends_see}
use Rattle.forest.specs.Acyclic.{Acyclic}
use Rattle.forest.specs.HoldSound.{found_of}
use Rattle.forest.specs.Edits.{Without}
use Rattle.forest.specs.Looks.{Looks, looks_itself, word-inside}
use Rattle.forest.specs.Kept.{only_kept}
use Rattle.forest.specs.After.{looks-holds, looks-sound}
use Rattle.forest.specs.Whole.{Forested}
use Rattle.arena.specs.FreeList.{free_node}
use Rattle.removal.specs.Freeable.{Freeable}
use Rattle.removed.specs.Gone.{joins, Gone}
use Rattle.removed.specs.Queue.{Kinds, Queue, queue_of, ready_of, queue-kept, kinds_kept, last_within}
use Rattle.removed.specs.FreeWords.{free-used, free-length, free-word, other-slot, found-freed, kinds-freed}
use Rattle.removed.specs.FreeChain.{queue-freed, gone-freed}

pub record Stands (m : List ℕ) (h : Header) (live : ℕ → Type 0) (v : View) (fs : List ℕ) : Type 0 where
  pub looks : Looks m live h.used v
  pub kinds : Kinds m h.used
  pub queue : Queue m h fs

-- ---- the live nodes, and views that agree at them

pub without-nodes : (live : ℕ → Type 0) → Nodes live → (xs : List ℕ) → Nodes (Without live xs)
without-nodes live N xs = record {
  some = λ y l. N.some y l.0;
  most = N.most;
  bound = λ y l. N.bound y l.0;
  dec = λ y. decide y (N.dec y) (in-dec y xs);
  prop = λ y. ×_prop (N.prop y) (off-prop y xs);
}
  where
    decide : (y : ℕ) → Dec (live y) → Off y xs ⊎ In y xs → Dec (Without live xs y)
    decide y (no n) d = no (λ w. n w.0)
    decide y (yes l) (inl o) = yes (l, o)
    decide y (yes l) (inr t) = no (λ w. off-not_in y xs w.1 t)

    off-prop : (y : ℕ) (zs : List ℕ) → IsProp (Off y zs)
    off-prop y [] = Unit-prop
    off-prop y (z ∷ zs) = ×_prop ¬_prop (off-prop y zs)

module _ {m : List ℕ} {h : Header} {live : ℕ → Type 0} {v : View} {fs : List ℕ} (S : Stands m h live v fs) where
  pub stands_see : (w : View) → SameOn live v w → Stands m h live w fs
  stands_see w same = record {
    looks = record { room = S.looks.room; alive = S.looks.alive; sees = λ k y l. S.looks.sees k y l ∙ same k y l };
    kinds = S.kinds;
    queue = S.queue;
  }

  pub stands_live : (live' : ℕ → Type 0) → ((y : ℕ) → live y ↔ live' y) → Stands m h live' v fs
  stands_live live' e = record {
    looks = record {
      room = S.looks.room;
      alive = λ y. (λ l. (S.looks.alive y).0 ((e y).1 l), λ f. (e y).0 ((S.looks.alive y).1 f));
      sees = λ k y l. S.looks.sees k y ((e y).1 l);
    };
    kinds = S.kinds;
    queue = S.queue;
  }

  -- ---- what ready memory has, and what makes it

  pub stands_forested : (F : Forest) → Holds v live F → Forested m h F
  stands_forested F H = looks-holds m live h.used v F S.looks H

  pub stands-ready : (F : Forest) → Holds v live F → Acyclic v live → (R : Ready m h) × (R.sound.free.slots ≡ fs)
  stands-ready F H a = ready_of m h fs S.kinds (looks-sound m live h.used v F S.looks H a) S.queue

  -- ---- a change of links, and a node freed

  pub stands-links : {ids m' : List ℕ} {v' : View} → Only ids m m' → Looks m' live h.used v' → Stands m' h live v' fs
  stands-links {m' = m'} only looks = record {
    looks = looks;
    kinds = kinds_kept m m' (only_kept only) h.used S.kinds;
    queue = queue-kept m m' (only_kept only) h fs S.queue;
  }

  module _ (c : ℕ) (l : live c) where
    pub stands_freeable : Freeable m h c
    stands_freeable = ((S.looks.alive c).0 l, S.looks.room, last_within m h fs S.queue)

    link-not-number : (k : Link) → word_of k ≢ NUMBER
    link-not-number par e = omega arith
    link-not-number prv e = omega arith
    link-not-number nxt e = omega arith
    link-not-number fst e = omega arith
    link-not-number lst e = omega arith

    pub stands-freed : Stands (free_node m h c).0 (free_node m h c).1 (Without live (c ∷ [])) v (fs ++ joins c)
    stands-freed = record {
      looks = record {
        room = rw (free-used m h c f, free-length m h c f) S.looks.room;
        alive = λ y.
            let w = found-freed m h c f y in (
              λ p. w.1 ((S.looks.alive y).0 p.0, p.1.0),
              λ g. ((S.looks.alive y).1 (w.0 g).0, ((w.0 g).1, tt)),
            );
        sees = λ k y p.
            let g = (S.looks.alive y).0 p.0 in
            link-some (free_node m h c).0 y (word_of k) g.from
            ∙ free-word m h c f (slot_of y) (word_of k) g.from (word-inside k) (other-slot m h c f y g p.1.0) (λ _ e. link-not-number k e)
            ∙ sym (link-some m y (word_of k) g.from) ∙ S.looks.sees k y p.0;
      };
      kinds = kinds-freed m h c f S.kinds;
      queue = queue-freed m h c f fs S.queue;
    }
      where
        f : Freeable m h c
        f = stands_freeable

    pub stands-gone : Gone m h (c ∷ []) (free_node m h c).0 (free_node m h c).1
    stands-gone = gone-freed m h c stands_freeable fs S.queue

-- links that have no cycle have none where fewer nodes are left, whose parents are as before
pub acyclic-left : (v w : View) (live left : ℕ → Type 0) (F : Forest) → ((y : ℕ) → left y → live y) → ((y : ℕ) → left y → w par y ≡ v par y) → Holds w left F
    → Acyclic v live → Acyclic w left
acyclic-left v w live left F within same H a y l = ends_see left (v par) (w par) same closed y l (a y (within y l))
  where
    closed : (z : ℕ) → left z → v par z ≢ 0 → left (v par z)
    closed z k n = subst left (same z k) (found_of w left F H z k par (λ q. n (sym (same z k) ∙ q)))

pub ready-stands : (m : List ℕ) (h : Header) → h.used * width ≤ length m → (R : Ready m h)
    → Stands m h (Found m h.used) (view m) R.sound.free.slots
ready-stands m h room R = record { looks = looks_itself m h.used room; kinds = R.sound.kind; queue = queue_of m h R }
