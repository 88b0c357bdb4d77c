-- Where a live node stands in the chains that the links hold, and what its links then are: parent, previous, next.
-- From the chain's segment, cut at the node.
use Rattle.std.specs.Prelude.{◌≡◌, refl, ◌⊎◌, List, ◌∷◌, ◌++◌, ℕ}
use Rattle.std.proofs.Common.{subst, inl, inr}
use Rattle.std.proofs.Math.Logic.{⊎_map}
use Rattle.rules.specs.Lists.{head_or, last_or, In, Off}
use Rattle.rules.specs.Links.{par, prv, nxt, View}
use Rattle.rules.specs.Forest.{Key, children, roots, owner, Forest, Segment, OwnerIn, Holds}
use Rattle.forest.specs.Lists.{in_left, in_right, in_split, last_in, head_in}
use Rattle.forest.specs.Members.{zero_off}
use Rattle.forest.specs.Segments.{seg-right}

module _ (v : View) (live : ℕ → Type 0) (F : Forest) (H : Holds v live F) where
  pub record Place (y : ℕ) : Type 0 where
    pub key : Key
    pub ok : OwnerIn live key
    pub left : List ℕ
    pub right : List ℕ
    pub is : F key ≡ left ++ y ∷ right
    pub home : key ≡ H.members.home y
    pub parent : v par y ≡ owner key
    pub before : v prv y ≡ last_or 0 left
    pub after : v nxt y ≡ head_or right 0
    pub segment : Segment (v par) (v prv) (v nxt) (owner key) 0 (left ++ y ∷ right) 0
    pub some : Off 0 (left ++ y ∷ right)

  place_at : (k : Key) (y : ℕ) → In y (F k) → Place y
  place_at k y t =
      let (ls, rs, e) = in_split y (F k) t in
      let ok : OwnerIn live k = (H.members.member k y t).2 in
      let s : Segment (v par) (v prv) (v nxt) (owner k) 0 (ls ++ y ∷ rs) 0 =
      subst (λ (xs : List ℕ). Segment (v par) (v prv) (v nxt) (owner k) 0 xs 0) e (H.chains k ok).segment in
      let h = seg-right (v par) (v prv) (v nxt) (owner k) 0 ls (y ∷ rs) 0 s in
      record {
        key = k;
        ok = ok;
        left = ls;
        right = rs;
        is = e;
        home = (H.members.member k y t).1;
        parent = h.0;
        before = h.1;
        after = h.2;
        segment = s;
        some = subst (Off 0) e (zero_off live F H.members k);
      }

  pub place : (y : ℕ) → live y → Place y
  place y l = place_at (H.members.home y) y (H.members.placed y l)

  -- the neighbours of a place in a chain, and its parent, are none or live
  pub member-live : (k : Key) (y : ℕ) → (y ≡ 0) ⊎ In y (F k) → (y ≡ 0) ⊎ live y
  member-live k y = ⊎_map (λ e. e) (λ t. (H.members.member k y t).0)

  pub left-live : (k : Key) (ls rs : List ℕ) → F k ≡ ls ++ rs → (last_or 0 ls ≡ 0) ⊎ live (last_or 0 ls)
  left-live k ls rs e = member-live k (last_or 0 ls) (⊎_map (λ q. q) (λ t. rw e (in_left _ ls rs t)) (last_in 0 ls))

  pub right-live : (k : Key) (ls rs : List ℕ) → F k ≡ ls ++ rs → (head_or rs 0 ≡ 0) ⊎ live (head_or rs 0)
  right-live k ls rs e = member-live k (head_or rs 0) (⊎_map (λ q. q) (λ t. rw e (in_right _ ls rs t)) (head_in rs))

pub owner-live : (live : ℕ → Type 0) (k : Key) → OwnerIn live k → (owner k ≡ 0) ⊎ live (owner k)
owner-live live (children p) l = inr l
owner-live live (roots j) l = inl refl
