-- A range of siblings, ms, is put between two neighbours under a parent: each of ms names it, and both ends are tied. What was
-- ls and rs becomes the chain ls, ms, rs; a chain that it does not touch stays. So a forest's chain moved as a whole is held.
use Rattle.std.specs.Prelude.{◌≡◌, ◌≢◌, List, [], ◌∷◌, ◌++◌}
use Rattle.std.proofs.Math.Path.{refl, ap}
use Rattle.std.proofs.Common.{sym, ◌∙◌, subst}
use Rattle.std.proofs.Math.Logic.{⊎_map}
use Prim.Native.Nat.{ℕ}
use Rattle.rules.specs.Lists.{head_or, last_or, Off, NoDup}
use Rattle.rules.specs.Links.{par, prv, nxt, fst, lst, View}
use Rattle.rules.specs.Forest.{Key, roots, owner, Forest, Segment, Chain, OwnerIn, Members, Holds, moved}
use Rattle.forest.specs.Lists.{last-append, in_left, in_right, last_in, head_in, last_some, Apart, apart_of, apart-sym, apart-last, apart-head}
use Rattle.follow.specs.Point.{at, at_same, at_other}
use Rattle.forest.specs.View.{first_of, first_of-keep, connect}
use Rattle.forest.specs.Segments.{seg-left, seg-right, seg-join, seg_nxt_off, seg_prv_off, seg_par_off, seg-set-end, seg-set-start}
use Rattle.forest.specs.Members.{far_off, far-end, own-apart, moved_elim}
use Rattle.forest.specs.Edits.{Three, three, members-move}

-- each of ms names o as its parent
unfoldable pub all_at : (ℕ → ℕ) → List ℕ → ℕ → ℕ → ℕ
all_at f [] o = f
all_at f (x ∷ xs) o = all_at (at f x o) xs o

abbrev pub reparent : View → List ℕ → ℕ → View
reparent v ms o par = all_at (v par) ms o
reparent v ms o prv = v prv
reparent v ms o nxt = v nxt
reparent v ms o fst = v fst
reparent v ms o lst = v lst

unfoldable pub transplant : View → ℕ → ℕ → ℕ → List ℕ → View
transplant v o p n ms = connect (connect (reparent v ms o) o p (head_or ms 0)) o (last_or 0 ms) n

pub all_off : (f : ℕ → ℕ) (ms : List ℕ) (o y : ℕ) → Off y ms → all_at f ms o y ≡ f y
unfolding all_at
all_off f [] o y h = refl
all_off f (x ∷ xs) o y h = all_off (at f x o) xs o y h.1 ∙ at_other f x o y h.0

seg-reparent_off : (p q n : ℕ → ℕ) (ms : List ℕ) (a o b : ℕ) (xs : List ℕ) (e : ℕ) → Apart ms xs → Segment p q n o b xs e
    → Segment (all_at p ms a) q n o b xs e
unfolding all_at
seg-reparent_off p q n [] a o b xs e h s = s
seg-reparent_off p q n (m ∷ ms) a o b xs e h s = seg-reparent_off (at p m a) q n ms a o b xs e h.1 (seg_par_off p q n o b xs e m a h.0 s)

seg-reparent : (p q n : ℕ → ℕ) (ms : List ℕ) (a o b : ℕ) (e : ℕ) → NoDup ms → Segment p q n o b ms e → Segment (all_at p ms a) q n a b ms e
unfolding all_at
seg-reparent p q n [] a o b e h s = tt
seg-reparent p q n (m ∷ ms) a o b e h s =
    (all_off (at p m a) ms a m h.0 ∙ at_same p m a, s.1, s.2, seg-reparent (at p m a) q n ms a o m e h.1 (seg_par_off p q n o m ms e m a h.0 s.3))

in-first : (ls rs : List ℕ) (p m l f : ℕ) (e : f ≡ head_or (ls ++ rs) 0) → p ≡ last_or 0 ls → Off 0 ls → m ≢ 0 → l ≢ 0 → (n : ℕ) (xs : List ℕ)
    → first_of l n (first_of p m f) ≡ head_or (ls ++ m ∷ xs) 0
in-first [] rs p m l f e ep z hm hl n xs = rw ep (first_of-keep l n m hl hm)
in-first (a ∷ ls) rs p m l f e ep z hm hl n xs = rw (ep, e)
    (ap (first_of l n) (first_of-keep (last_or a ls) m a (last_some a ls z) (λ r. z.0 (sym r))) ∙ first_of-keep l n a hl (λ r. z.0 (sym r)))

in-last : (ls rs : List ℕ) (p m : ℕ) (ms : List ℕ) (f : ℕ) → f ≡ last_or 0 (ls ++ rs) → Off 0 rs → m ≢ 0
    → first_of (head_or rs 0) (last_or m ms) (first_of m p f) ≡ last_or 0 (ls ++ (m ∷ ms ++ rs))
in-last ls [] p m ms f e z hm = sym (last-append 0 ls (m ∷ ms ++ []) ∙ last-append m ms [])
in-last ls (r ∷ rs) p m ms f e z hm =
    ap (first_of r (last_or m ms)) (first_of-keep m p f hm fz) ∙ first_of-keep r (last_or m ms) f (λ q. z.0 (sym q)) fz ∙ fe
    ∙ sym (last-append 0 ls (m ∷ ms ++ r ∷ rs) ∙ last-append m ms (r ∷ rs))
  where
    fe : f ≡ last_or r rs
    fe = e ∙ last-append 0 ls (r ∷ rs)

    fz : f ≢ 0
    fz q = last_some r rs z (sym fe ∙ q)

module _ (v : View) (o o' m : ℕ) (ls ms rs : List ℕ) (d : Three ls (m ∷ ms) rs) where
  transplant-chain : Chain v o (ls ++ rs) → Segment (v par) (v prv) (v nxt) o' 0 (m ∷ ms) 0
      → Chain (transplant v o (last_or 0 ls) (head_or rs 0) (m ∷ ms)) o (ls ++ (m ∷ ms ++ rs))
  unfolding transplant connect
  transplant-chain c s = record {
    segment = seg-join P Q N o 0 ls (m ∷ ms ++ rs) 0 left (seg-join P Q N o p (m ∷ ms) rs 0 mid right);
    first = λ h. at_same _ o _ ∙ ap (λ (a : ℕ). first_of l n a) (at_same _ o _) ∙ in-first ls rs p m l (v fst o) (c.first h) refl d.zl mz lz n (ms ++ rs);
    last = λ h. at_same _ o _ ∙ ap (λ (a : ℕ). first_of n l a) (at_same _ o _) ∙ in-last ls rs p m ms (v lst o) (c.last h) d.zr mz;
  }
    where
      p : ℕ
      p = last_or 0 ls

      n : ℕ
      n = head_or rs 0

      l : ℕ
      l = last_or m ms

      mz : m ≢ 0
      mz e = d.zm.0 (sym e)

      lz : l ≢ 0
      lz = last_some m ms d.zm

      P : ℕ → ℕ
      P = all_at (v par) (m ∷ ms) o

      Q : ℕ → ℕ
      Q = at (at (v prv) m p) n l

      N : ℕ → ℕ
      N = at (at (v nxt) p m) l n

      ml : Apart (m ∷ ms) ls
      ml = apart-sym (m ∷ ms) ls d.lm

      rl : Apart rs ls
      rl = apart-sym rs ls d.lr

      rm : Apart rs (m ∷ ms)
      rm = apart-sym rs (m ∷ ms) d.mr

      s0 : Segment (v par) (v prv) (v nxt) o 0 ls n
      s0 = seg-left _ _ _ o 0 ls rs 0 c.segment

      s2 : Segment (v par) (v prv) (v nxt) o p rs 0
      s2 = seg-right _ _ _ o 0 ls rs 0 c.segment

      left : Segment P Q N o 0 ls m
      left =
          seg-reparent_off (v par) Q N (m ∷ ms) o o 0 ls m ml
          (seg_prv_off _ (at (v prv) m p) N o 0 ls m n l (apart-head rs ls rl d.zl)
          (seg_prv_off _ (v prv) N o 0 ls m m p ml.0
          (seg_nxt_off _ _ (at (v nxt) p m) o 0 ls m l n (apart-last m ms ls ml.1 ml.0)
          (seg-set-end _ _ (v nxt) o 0 ls n m d.nl d.zl s0))))

      mid : Segment P Q N o p (m ∷ ms) n
      mid =
          seg_prv_off _ (at (v prv) m p) N o p (m ∷ ms) n n l (apart-head rs (m ∷ ms) rm d.zm)
          (seg-set-start _ (v prv) N o 0 p (m ∷ ms) n d.nm
          (seg-set-end _ _ (at (v nxt) p m) o 0 (m ∷ ms) 0 n d.nm d.zm
          (seg_nxt_off _ _ (v nxt) o 0 (m ∷ ms) 0 p m (apart-last 0 ls (m ∷ ms) d.lm d.zm)
          (seg-reparent (v par) _ _ (m ∷ ms) o o' 0 0 d.nm s))))

      right : Segment P Q N o l rs 0
      right =
          seg-reparent_off (v par) Q N (m ∷ ms) o o l rs 0 d.mr
          (seg_nxt_off _ _ (at (v nxt) p m) o l rs 0 l n (apart-last m ms rs d.mr.1 d.mr.0)
          (seg_nxt_off _ _ (v nxt) o l rs 0 p m (apart-last 0 ls rs d.lr d.zr)
          (seg-set-start _ (at (v prv) m p) (v nxt) o p l rs 0 d.nr
          (seg_prv_off _ (v prv) (v nxt) o p rs 0 m p d.mr.0 s2))))

transplant-frame : (v : View) (o p n : ℕ) (m : ℕ) (ms : List ℕ) (o'' : ℕ) (ys : List ℕ) → Apart (m ∷ ms) ys → Off p ys → Off n ys
    → (o'' ≢ 0 → o'' ≢ o)
    → Chain v o'' ys → Chain (transplant v o p n (m ∷ ms)) o'' ys
unfolding transplant connect
transplant-frame v o p n m ms o'' ys hm hp hn ho c = record {
  segment = seg-reparent_off (v par) _ _ (m ∷ ms) o o'' 0 ys 0 hm
      (seg_prv_off _ (at (v prv) m p) _ o'' 0 ys 0 n l hn
      (seg_prv_off _ (v prv) _ o'' 0 ys 0 m p hm.0
      (seg_nxt_off _ _ (at (v nxt) p m) o'' 0 ys 0 l n (apart-last m ms ys hm.1 hm.0)
      (seg_nxt_off _ _ (v nxt) o'' 0 ys 0 p m hp c.segment))));
  first = λ h. at_other _ o _ o'' (ho h) ∙ at_other _ o _ o'' (ho h) ∙ c.first h;
  last = λ h. at_other _ o _ o'' (ho h) ∙ at_other _ o _ o'' (ho h) ∙ c.last h;
}
  where
    l : ℕ
    l = last_or m ms

-- ---- a whole chain of the forest

-- no node at all, under none
pub no-roots : (v : View) → Chain v 0 []
no-roots v = record { segment = tt; first = λ h. absurd (h refl); last = λ h. absurd (h refl) }

-- The chain i goes between ls and rs at k, on links that hold the other chains, and where the old chain is then empty.
module _ (v : View) (live : ℕ → Type 0) (F : Forest) (M : Members live F) (k : Key) (ls rs : List ℕ) (e : F k ≡ ls ++ rs) (ok : OwnerIn live k)
    (i : Key) (m : ℕ) (ms : List ℕ) (ei : F i ≡ m ∷ ms) (ki : k ≢ i) where
  pub holds-move : Chain v (owner k) (ls ++ rs) → (o' : ℕ) → Segment (v par) (v prv) (v nxt) o' 0 (m ∷ ms) 0
      → ((k' : Key) → k' ≢ k → k' ≢ i → OwnerIn live k' → Chain v (owner k') (F k'))
      → Chain (transplant v (owner k) (last_or 0 ls) (head_or rs 0) (m ∷ ms)) (owner i) []
      → Holds (transplant v (owner k) (last_or 0 ls) (head_or rs 0) (m ∷ ms)) live (moved F k ls (m ∷ ms) rs i)
  holds-move at-k o' range others empty = record {
    members = members-move live F M k ls rs e ok i (m ∷ ms) ei ki;
    chains = moved_elim (λ k' xs. OwnerIn live k' → Chain (transplant v (owner k) p n (m ∷ ms)) (owner k') xs) F k ls (m ∷ ms) rs i
        (λ _. empty)
        (λ _. transplant-chain v (owner k) o' m ls ms rs (three live F M k ls rs e ok i (m ∷ ms) ei ki) at-k range)
        (λ k' h hi ok'. transplant-frame v (owner k) p n m ms (owner k') (F k')
        (apart_of (m ∷ ms) (F k') (λ y t. far_off live F M i k' y hi (rw ei t)))
        (far-end live F M k k' p h (⊎_map (λ q. q) (λ t. rw e (in_left _ ls rs t)) (last_in 0 ls)))
        (far-end live F M k k' n h (⊎_map (λ q. q) (λ t. rw e (in_right _ ls rs t)) (head_in rs)))
        (own-apart k' k h) (others k' h hi ok'));
  }
    where
      p : ℕ
      p = last_or 0 ls

      n : ℕ
      n = head_or rs 0

-- The members of the root chain j go between ls and rs at k.
pub holds_insert : (v : View) (live : ℕ → Type 0) (F : Forest) → Holds v live F → (k : Key) (ls rs : List ℕ) → F k ≡ ls ++ rs → OwnerIn live k
    → (j m : ℕ) (ms : List ℕ) → F (roots j) ≡ m ∷ ms → k ≢ roots j
    → Holds (transplant v (owner k) (last_or 0 ls) (head_or rs 0) (m ∷ ms)) live (moved F k ls (m ∷ ms) rs (roots j))
holds_insert v live F H k ls rs e ok j m ms ej kj =
    holds-move v live F H.members k ls rs e ok (roots j) m ms ej kj
    (subst (Chain v (owner k)) e (H.chains k ok)) 0 (subst (Chain v 0) ej (H.chains (roots j) tt)).segment (λ k' _ _ ok'. H.chains k' ok') (no-roots _)
