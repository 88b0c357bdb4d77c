-- All below a found node of ready memory is freed: the loop takes fewer turns than it has, frees the tree children first, left to
-- right, and what is left holds the forest without that tree. The node stays, with no children.
use Rattle.std.specs.Prelude.{◌≡◌, refl, ◌≢◌, ◌↔◌, List, [], ◌∷◌, ◌++◌, ◌-◌, ℕ, ◌*◌, ◌≤◌, length}
use Rattle.std.proofs.Common.{sym, ◌∙◌, subst, append-nil, arith, length-append}
use Rattle.std.proofs.Math.Decide.{ℕ_discrete}
use Rattle.link.specs.Words.{width}
use Rattle.link.specs.Found.{Found}
use Rattle.link.specs.declared.header.Header.{Header}
use Rattle.rules.specs.Lists.{head_or, Off, NoDup, All}
use Rattle.rules.specs.Links.{Link, par, prv, nxt, fst, lst, View, view}
use Rattle.rules.specs.Sound.{Ready}
use Rattle.rules.specs.Forest.{Key, children, Forest, Holds, put, dropped}
use Rattle.rules.specs.Tree.{Tree, none, node, top, pre, post, Hang}
use Rattle.forest.specs.Lists.{off-left, off-right, off-append, all_map}
use Rattle.forest.specs.Found.{Nodes, found-nodes, found_some}
use Rattle.forest.specs.Members.{put_elim, zero_off}
use Rattle.forest.specs.Acyclic.{Acyclic}
use Rattle.forest.specs.Edits.{Without}
use Rattle.forest.specs.Bound.{found-few}
use Rattle.forest.specs.Frees.{over, off-over, turns, Freed, not_none, post_off, frees}
use Rattle.forest.specs.Subtree.{freed-below}
use Rattle.forest.specs.After.{holds-live}
use Rattle.forest.specs.Whole.{Forested, no_cycle, tree_of_lem}
use Rattle.removal.specs.Descendants.{remove_descendants}
use Rattle.removed.specs.Gone.{joining, Gone}
use Rattle.removed.specs.GoneLaws.{gone-kept}
use Rattle.removed.specs.Stands.{Stands, stands_live, acyclic-left, ready-stands}
use Rattle.removed.specs.Loop.{Run, runs, turn-into, turn_last}

-- ---- the nodes of a tree, in either order

off-post : (y : ℕ) (t : Tree) → Off y (post t) → Off y (pre t)
off-post y none h = tt
off-post y (node x k n) h =
    let r = off-right y (post k) (x ∷ post n) h in
    (r.0, off-append y (pre k) (pre n) (off-post y k (off-left y (post k) (x ∷ post n) h)) (off-post y n r.1))

over_off : (y : ℕ) (ys g : List ℕ) → Off y (over ys g) → Off y ys × Off y g
over_off y [] g h = (tt, h)
over_off y (a ∷ ys) g h = let w = over_off y ys (a ∷ g) h in ((w.1.0, w.0), w.1.1)

post-length : (t : Tree) → length (post t) ≡ length (pre t)
post-length none = refl
post-length (node x k n) =
    let a = length-append (post k) (x ∷ post n) in let b = length-append (pre k) (pre n) in
    let c = post-length k in let d = post-length n in omega arith

-- a chain that is empty already
put_none : (F : Forest) (k : Key) → F k ≡ [] → (k' : Key) → put F k [] k' ≡ F k'
put_none F k e = put_elim (λ k' xs. xs ≡ F k') F k [] (sym e) (λ k' _. refl)

module _ (m : List ℕ) (h : Header) (room : h.used * width ≤ length m) (R : Ready m h) (x : ℕ) (f : Found m h.used x) where
  abbrev live : ℕ → Type 0
  live = Found m h.used

  abbrev v : View
  v = view m

  N : Nodes live
  N = found-nodes m h.used

  some : x ≢ 0
  some = found_some m h.used x f

  -- the loop's end, where the tree below x is t
  pub record Swept (t : Tree) : Type 0 where
    pub words : List ℕ
    pub head : Header
    pub after : View
    -- with 2 × used turns or more it comes to these words and this header
    pub is : (n : ℕ) → 2 * h.used ≤ n → remove_descendants n m h x x ≡ (words, head)
    pub stands : Stands words head (Without live (pre t)) after (R.sound.free.slots ++ joining (post t))
    pub gone : Gone m h (post t) words head
    pub empty : (after fst x ≡ 0) × (after lst x ≡ 0)
    pub place : (after par x ≡ v par x) × (after prv x ≡ v prv x) × (after nxt x ≡ v nxt x)
    pub others : (k : Link) (y : ℕ) → y ≢ x → Off y (pre t) → after k y ≡ v k y
    pub holds : (F : Forest) → Forested m h F → Holds after (Without live (pre t)) (dropped F (pre t) (children x))

  -- where there is none below it, the loop is over at once
  sweep_none : v fst x ≡ 0 → Swept none
  sweep_none e = record {
    words = m;
    head = h;
    after = v;
    is = λ n l. let a = f.from in let b = f.upto in turn_last n m h x x (omega arith) some e refl;
    stands = subst (Stands m h (Without live []) v) (sym (append-nil R.sound.free.slots))
        (stands_live (ready-stands m h room R) (Without live []) both);
    gone = gone-kept m m h refl (λ s. (refl, refl));
    empty = (e, (R.sound.links.both x f).0 e);
    place = (refl, refl, refl);
    others = λ k y n o. refl;
    holds = λ F H. subst (Holds v (Without live [])) (λ i k. sym (same F H k) i) (holds-live v live (Without live []) F both H);
  }
    where
      both : (y : ℕ) → live y ↔ Without live [] y
      both y = (λ l. (l, tt), λ w. w.0)

      same : (F : Forest) → Forested m h F → (k : Key) → put F (children x) [] k ≡ F k
      same F H = put_none F (children x) (childless (F (children x)) ((H.chains (children x) f).first some) (zero_off live F H.members (children x)))
        where
          childless : (xs : List ℕ) → v fst x ≡ head_or xs 0 → Off 0 xs → xs ≡ []
          childless [] q z = refl
          childless (a ∷ xs) q z = absurd (z.0 (sym e ∙ q))

  sweep-some : (a : ℕ) (k n : Tree) → v fst x ≡ a → Hang v x (node a k n) → All live (pre (node a k n)) → NoDup (x ∷ pre (node a k n)) → Swept (node a k n)
  sweep-some a k n et ht lives once = record {
    words = r.words;
    head = r.head;
    after = w.after;
    is = λ i l.
        let few = w.few in let p = post-length t in
        let most = found-few m h.used (x ∷ pre t) (f, lives) once in
        turn-into i m h x x (omega arith) some a et ht.0 ∙ r.goes (i - 1 - turns w.steps) (i - 1) (omega arith)
        ∙ turn_last (i - 1 - turns w.steps) r.words r.head x x (omega arith) some
        (r.stands.looks.sees fst x (f, off-over x (post t) [] (post_off x t once.0) tt) ∙ w.empty.0) refl;
    stands = stands_live r.stands (Without live (pre t))
        (λ y. (λ l. (l.0, off-post y t (over_off y (post t) [] l.1).0), λ l. (l.0, off-over y (post t) [] (post_off y t l.1) tt)));
    gone = r.gone;
    empty = w.empty;
    place = w.alike.stands once.0;
    others = w.alike.others;
    holds = λ F H. freed-below v live F H x f t et ht once.0 w;
  }
    where
      t : Tree
      t = node a k n

      w : Freed x live [] v (top t) x (post t) (pre t)
      w = frees x live [] v x t (not_none a k n) some ht once.1 once.0 once.0 (all_map live (Without live []) (λ y l. (l, tt)) (pre t) lives) (f, tt)

      r : Run x live m h (top t) R.sound.free.slots [] w.after x (post t) (turns w.steps)
      r = runs x live N w.steps m h R.sound.free.slots (stands_live (ready-stands m h room R) (Without live []) (λ y. (λ l. (l, tt), λ l. l.0)))

  pub sweep : (t : Tree) → v fst x ≡ top t → Hang v x t → All live (pre t) → NoDup (x ∷ pre t) → Swept t
  sweep none e ht lives once = sweep_none e
  sweep (node a k n) e ht lives once = sweep-some a k n e ht lives once

  -- the tree below x
  abbrev pub below-tree : Tree
  below-tree = (tree_of_lem m h R.sound x f).tree

  pub swept : Swept below-tree
  swept = let b = tree_of_lem m h R.sound x f in sweep b.tree b.tops b.hangs b.lives b.once

  -- what is left has no cycle
  pub swept-acyclic : (t : Tree) (s : Swept t) (F : Forest) → Forested m h F → Acyclic s.after (Without live (pre t))
  swept-acyclic t s F H =
      acyclic-left v s.after live (Without live (pre t)) (dropped F (pre t) (children x)) (λ y l. l.0) (λ y l. same y (ℕ_discrete y x) l.1) (s.holds F H)
      (no_cycle m h R.sound)
    where
      same : (y : ℕ) → Dec (y ≡ x) → Off y (pre t) → s.after par y ≡ v par y
      same y (yes e) o = rw e s.place.0
      same y (no n) o = s.others par y n o
