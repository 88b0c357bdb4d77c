-- A node that stands in a chain is detached: what is left of its chain is a chain, the node is a chain of one, and every other
-- chain is as it was. So the links after it hold the forest after it.
use Rattle.std.specs.Prelude.{◌≡◌, refl, ◌≢◌, ◌⊎◌, List, [], ◌∷◌, ◌++◌, ℕ}
use Rattle.std.proofs.Common.{sym, ap, ◌∙◌, subst, inl, inr}
use Rattle.std.proofs.Math.Logic.{⊎_map}
use Rattle.rules.specs.Lists.{head_or, last_or, In, Off, NoDup}
use Rattle.rules.specs.Links.{par, prv, nxt, fst, lst, View}
use Rattle.rules.specs.Forest.{Key, roots, owner, Forest, Segment, Chain, OwnerIn, Holds, detached}
use Rattle.forest.specs.Lists.{last-append, in_left, in_right, last_in, head_in, off-left, off-right, off-last, last_some, nodup-left, nodup-right, off-before, nodup-out, nodup-apart, apart-sym, apart-head, apart-last}
use Rattle.follow.specs.Point.{at, at_same, at_other}
use Rattle.forest.specs.View.{first_of, first_of-keep, connect, detach_at, detach}
use Rattle.forest.specs.Segments.{seg-left, seg-right, seg-join, seg_nxt_off, seg_prv_off, seg_par_off, seg-set-end, seg-set-start}
use Rattle.forest.specs.Members.{zero_off, far_off, far-end, own-apart, detached_elim}
use Rattle.forest.specs.Edits.{members-detach}

-- the first and the last child after it
first_after_lem : (ls rs : List ℕ) (f x : ℕ) → Off 0 ls → f ≡ head_or (ls ++ x ∷ rs) 0 → first_of (last_or 0 ls) (head_or rs 0) f ≡ head_or (ls ++ rs) 0
first_after_lem [] rs f x z e = refl
first_after_lem (a ∷ ls) rs f x z e = rw e (first_of-keep (last_or a ls) (head_or rs 0) a (last_some a ls z) (λ r. z.0 (sym r)))

last_after_lem : (ls rs : List ℕ) (f x : ℕ) → Off 0 rs → f ≡ last_or 0 (ls ++ x ∷ rs) → first_of (head_or rs 0) (last_or 0 ls) f ≡ last_or 0 (ls ++ rs)
last_after_lem ls [] f x z e = sym (last-append 0 ls [])
last_after_lem ls (y ∷ ys) f x z e =
    rw (e ∙ last-append 0 ls (x ∷ y ∷ ys)) (first_of-keep y (last_or 0 ls) (last_or y ys) (λ r. z.0 (sym r)) (last_some y ys z))
    ∙ sym (last-append 0 ls (y ∷ ys))

module _ (v : View) (o x : ℕ) (ls rs : List ℕ) (nd : NoDup (ls ++ x ∷ rs)) (nz : Off 0 (ls ++ x ∷ rs)) where
  xl : Off x ls
  xl = off-before ls rs x nd

  xr : Off x rs
  xr = (nodup-right ls (x ∷ rs) nd).0

  detach-rest : Chain v o (ls ++ x ∷ rs) → Chain (detach_at v x o (last_or 0 ls) (head_or rs 0)) o (ls ++ rs)
  unfolding connect
  detach-rest c = record {
    segment = seg-join _ _ _ o 0 ls rs 0 left right;
    first = λ h. at_same _ o _ ∙ first_after_lem ls rs (v fst o) x zl (c.first h);
    last = λ h. at_same _ o _ ∙ last_after_lem ls rs (v lst o) x zr (c.last h);
  }
    where
      zl : Off 0 ls
      zl = off-left 0 ls (x ∷ rs) nz

      zr : Off 0 rs
      zr = (off-right 0 ls (x ∷ rs) nz).1

      nd' : NoDup (ls ++ rs)
      nd' = nodup-out ls rs x nd

      P : ℕ → ℕ
      P = at (v par) x 0

      Q : ℕ → ℕ
      Q = at (v prv) x 0

      N : ℕ → ℕ
      N = at (v nxt) x 0

      p : ℕ
      p = last_or 0 ls

      n : ℕ
      n = head_or rs 0

      clean : (b : ℕ) (xs : List ℕ) (e : ℕ) → Off x xs → Segment (v par) (v prv) (v nxt) o b xs e → Segment P Q N o b xs e
      clean b xs e h s =
          seg_par_off (v par) Q N o b xs e x 0 h (seg_prv_off (v par) (v prv) N o b xs e x 0 h (seg_nxt_off (v par) (v prv) (v nxt) o b xs e x 0 h s))

      left : Segment P (at Q n p) (at N p n) o 0 ls n
      left =
          seg_prv_off P Q (at N p n) o 0 ls n n p (apart-head rs ls (apart-sym rs ls (nodup-apart ls rs nd')) zl)
          (seg-set-end P Q N o 0 ls x n (nodup-left ls rs nd') zl (clean 0 ls x xl (seg-left _ _ _ o 0 ls (x ∷ rs) 0 c.segment)))

      right : Segment P (at Q n p) (at N p n) o p rs 0
      right =
          seg_nxt_off P (at Q n p) N o p rs 0 p n (apart-last 0 ls rs (nodup-apart ls rs nd') zr)
          (seg-set-start P Q N o x p rs 0 (nodup-right ls rs nd') (clean x rs 0 xr (seg-right _ _ _ o 0 ls (x ∷ rs) 0 c.segment).3))

  detach-alone : Chain (detach_at v x o (last_or 0 ls) (head_or rs 0)) 0 (x ∷ [])
  unfolding connect
  detach-alone = record {
    segment = (
      at_same _ x 0,
      at_other _ (head_or rs 0) _ x (λ q. (apart-head rs (x ∷ []) (apart-sym rs (x ∷ []) (xr, tt)) (xz', tt)).0 (sym q)) ∙ at_same _ x 0,
      at_other _ (last_or 0 ls) _ x (off-last x 0 ls (xz, xl)) ∙ at_same _ x 0,
      tt,
    );
    first = λ h. absurd (h refl);
    last = λ h. absurd (h refl);
  }
    where
      xz' : 0 ≢ x
      xz' = (off-right 0 ls (x ∷ rs) nz).0

      xz : x ≢ 0
      xz e = xz' (sym e)

-- a chain that the change does not touch
detach-frame : (v : View) (x o p n : ℕ) (o' : ℕ) (ys : List ℕ) → Off x ys → Off p ys → Off n ys → (o' ≢ 0 → o' ≢ o) → Chain v o' ys
    → Chain (detach_at v x o p n) o' ys
unfolding connect
detach-frame v x o p n o' ys hx hp hn ho c = record {
  segment = seg_par_off (v par) (at (at (v prv) x 0) n p) (at (at (v nxt) x 0) p n) o' 0 ys 0 x 0 hx
      (seg_prv_off (v par) (at (v prv) x 0) (at (at (v nxt) x 0) p n) o' 0 ys 0 n p hn
      (seg_prv_off (v par) (v prv) (at (at (v nxt) x 0) p n) o' 0 ys 0 x 0 hx
      (seg_nxt_off (v par) (v prv) (at (v nxt) x 0) o' 0 ys 0 p n hp (seg_nxt_off (v par) (v prv) (v nxt) o' 0 ys 0 x 0 hx c.segment))));
  first = λ h. at_other _ o _ o' (ho h) ∙ c.first h;
  last = λ h. at_other _ o _ o' (ho h) ∙ c.last h;
}

-- what is read from the links is what the chain says
detach_at_lem : (v : View) (x o : ℕ) (ls rs : List ℕ) → Chain v o (ls ++ x ∷ rs) → detach v x ≡ detach_at v x o (last_or 0 ls) (head_or rs 0)
unfolding detach
detach_at_lem v x o ls rs c =
    let s = seg-right (v par) (v prv) (v nxt) o 0 ls (x ∷ rs) 0 c.segment in
    ap (λ (a : ℕ). detach_at v x a (v prv x) (v nxt x)) s.0
    ∙ ap (λ (a : ℕ). detach_at v x o a (v nxt x)) s.1
    ∙ ap (λ (a : ℕ). detach_at v x o (last_or 0 ls) a) s.2

module _ (v : View) (live : ℕ → Type 0) (F : Forest) (H : Holds v live F) (k : Key) (ls : List ℕ) (x : ℕ) (rs : List ℕ) (e : F k ≡ ls ++ x ∷ rs)
    (j : ℕ) (free : F (roots j) ≡ []) where
  pub holds-detach : Holds (detach v x) live (detached F k ls x rs j)
  holds-detach = record {
    members = members-detach live F H.members k ls x rs e j free;
    chains = detached_elim (λ k' xs. OwnerIn live k' → Chain (detach v x) (owner k') xs) F k ls rs x j
        (λ _. rw at-chain (detach-alone v (owner k) x ls rs nd nz))
        (λ _. rw at-chain (detach-rest v (owner k) x ls rs nd nz ch))
        (λ k' h ok. rw at-chain (detach-frame v x (owner k) (last_or 0 ls) (head_or rs 0) (owner k') (F k') (far_off live F H.members k k' x h was)
        (far-end live F H.members k k' (last_or 0 ls) h lk) (far-end live F H.members k k' (head_or rs 0) h hk) (own-apart k' k h) (H.chains k' ok)));
  }
    where
      nd : NoDup (ls ++ x ∷ rs)
      nd = subst NoDup e (H.members.distinct k)

      nz : Off 0 (ls ++ x ∷ rs)
      nz = subst (Off 0) e (zero_off live F H.members k)

      was : In x (F k)
      was = rw e (in_right x ls (x ∷ rs) (inl refl))

      ch : Chain v (owner k) (ls ++ x ∷ rs)
      ch = subst (Chain v (owner k)) e (H.chains k (H.members.member k x was).2)

      at-chain : detach v x ≡ detach_at v x (owner k) (last_or 0 ls) (head_or rs 0)
      at-chain = detach_at_lem v x (owner k) ls rs ch

      lk : (last_or 0 ls ≡ 0) ⊎ In (last_or 0 ls) (F k)
      lk = ⊎_map (λ q. q) (λ t. rw e (in_left _ ls (x ∷ rs) t)) (last_in 0 ls)

      hk : (head_or rs 0 ≡ 0) ⊎ In (head_or rs 0) (F k)
      hk = ⊎_map (λ q. q) (λ t. rw e (in_right _ ls (x ∷ rs) (inr t))) (head_in rs)
