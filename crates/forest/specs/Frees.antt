-- The loop that frees what is below a node: down to a leaf, which leaves its parent's chain from the front, then to its next
-- sibling or up. It frees the tree children first, left to right, ends at the node, and leaves every other node's links alone.
use Rattle.std.specs.Prelude.{◌≡◌, refl, ◌≢◌, List, [], ◌∷◌, ◌++◌, ℕ, zero, suc, ◌+◌, ◌*◌, ◌<◌, ◌≤◌, length}
use Rattle.std.proofs.Common.{sym, ap, ◌∙◌, subst, arith, length-append}
use Rattle.rules.specs.Lists.{Off, NoDup, All}
use Rattle.rules.specs.Links.{Link, par, prv, nxt, fst, lst, View}
use Rattle.rules.specs.Tree.{Tree, none, node, top, pre, post, Hang}
use Rattle.forest.specs.Lists.{in_left, in_right, off-left, off-right, off-append, nodup-left, nodup-right, all_of, all_in, Apart, apart_of, apart_in, apart-sym, apart-left, apart-right, nodup-apart}
use Rattle.follow.specs.Point.{at, at_same, at_other}
use Rattle.forest.specs.View.{upd, or_else, or_left}
use Rattle.forest.specs.Edits.{Without}

-- a freed node's links are none
abbrev pub bare : View → ℕ → View
bare v c = upd (upd (upd (upd (upd v par c 0) prv c 0) nxt c 0) fst c 0) lst c 0

-- the last child after the first left, where n is next to it
abbrev pub last_left : ℕ → ℕ → ℕ
last_left zero l = 0
last_left (suc n) l = l

-- a leaf leaves its parent's chain from the front, and is freed
abbrev pub cut : View → ℕ → View
cut v c = bare (upd (upd v fst (v par c) (v nxt c)) lst (v par c) (last_left (v nxt c) (v lst (v par c)))) c

-- the nodes that are gone, once ys went after g
abbrev pub over : List ℕ → List ℕ → List ℕ
over [] g = g
over (y ∷ ys) g = over ys (y ∷ g)

pub off-over : (y : ℕ) (ys g : List ℕ) → Off y ys → Off y g → Off y (over ys g)
off-over y [] g h k = k
off-over y (a ∷ ys) g h k = off-over y ys (a ∷ g) h.1 (h.0, k)

-- the loop below x, where g are gone: from view and cursor, freeing in this order, to view and cursor; the cursor, and the parent
-- of a leaf that goes, are live and not gone
pub data Steps (x : ℕ) (live : ℕ → Type 0) : List ℕ → View → ℕ → List ℕ → View → ℕ → Type 0 where
  rest : {g : List ℕ} {v : View} {c : ℕ} → Steps x live g v c [] v c
  down : {g : List ℕ} {v v' : View} {c d c' : ℕ} {ys : List ℕ} → Without live g c → v fst c ≡ d → d ≢ 0 → Steps x live g v d ys v' c'
      → Steps x live g v c ys v' c'
  up : {g : List ℕ} {v v' : View} {c d c' : ℕ} {ys : List ℕ} → Without live g c → Without live g (v par c) → v fst c ≡ 0 → c ≢ x
      → or_else (v nxt c) (v par c) ≡ d → Steps x live (c ∷ g) (cut v c) d ys v' c' → Steps x live g v c (c ∷ ys) v' c'

unfoldable pub turns : {x : ℕ} {live : ℕ → Type 0} {g : List ℕ} {v v' : View} {c c' : ℕ} {ys : List ℕ} → Steps x live g v c ys v' c' → ℕ
turns rest = 0
turns (down a e h s) = suc (turns s)
turns (up a b e h q s) = suc (turns s)

steps_then : {x : ℕ} {live : ℕ → Type 0} {g : List ℕ} {v v' v'' : View} {c c' c'' : ℕ} {ys zs : List ℕ} → Steps x live g v c ys v' c'
    → Steps x live (over ys g) v' c' zs v'' c'' → Steps x live g v c (ys ++ zs) v'' c''
steps_then rest t = t
steps_then (down a e h s) t = down a e h (steps_then s t)
steps_then (up a b e h q s) t = up a b e h q (steps_then s t)

turns_then : {x : ℕ} {live : ℕ → Type 0} {g : List ℕ} {v v' v'' : View} {c c' c'' : ℕ} {ys zs : List ℕ} (s : Steps x live g v c ys v' c')
    (t : Steps x live (over ys g) v' c' zs v'' c'') → turns (steps_then s t) ≡ turns s + turns t
unfolding turns steps_then
turns_then rest t = omega arith
turns_then (down a e h s) t = let i = turns_then s t in omega arith
turns_then (up a b e h q s) t = let i = turns_then s t in omega arith

-- what freeing xs below o leaves alone: the other nodes, and o's own place
pub record Alike (v v' : View) (o : ℕ) (xs : List ℕ) : Type 0 where
  pub others : (k : Link) (y : ℕ) → y ≢ o → Off y xs → v' k y ≡ v k y
  pub stands : Off o xs → (v' par o ≡ v par o) × (v' prv o ≡ v prv o) × (v' nxt o ≡ v nxt o)

hang-alike : (v v' : View) (o : ℕ) (xs : List ℕ) → Alike v v' o xs → (p : ℕ) (t : Tree) → Off o (pre t) → Apart (pre t) xs → Hang v p t → Hang v' p t
hang-alike v v' o xs a p none h d s = tt
hang-alike v v' o xs a p (node y k n) h d s =
    let same : (l : Link) → v' l y ≡ v l y = λ l. a.others l y (λ q. h.0 (sym q)) d.0 in (
      s.0,
      same par ∙ s.1,
      same nxt ∙ s.2,
      same fst ∙ s.3,
      hang-alike v v' o xs a y k (off-left o (pre k) (pre n) h.1) (apart-left (pre k) (pre n) xs d.1) s.4,
      hang-alike v v' o xs a p n (off-right o (pre k) (pre n) h.1) (apart-right (pre k) (pre n) xs d.1) s.5,
    )

cut-alike : (v : View) (c o : ℕ) → v par c ≡ o → Alike v (cut v c) o (c ∷ [])
cut-alike v c o e = record {
  others = λ k y h f. at-link k y f.0 (λ q. h (q ∙ e));
  stands = λ f. (at_other (v par) c 0 o f.0, at_other (v prv) c 0 o f.0, at_other (v nxt) c 0 o f.0);
}
  where
    at-link : (k : Link) (y : ℕ) → y ≢ c → y ≢ v par c → cut v c k y ≡ v k y
    at-link par y h g = at_other (v par) c 0 y h
    at-link prv y h g = at_other (v prv) c 0 y h
    at-link nxt y h g = at_other (v nxt) c 0 y h
    at-link fst y h g = at_other _ c 0 y h ∙ at_other (v fst) (v par c) _ y g
    at-link lst y h g = at_other _ c 0 y h ∙ at_other (v lst) (v par c) _ y g

-- from the cursor c the loop frees ys, which are xs, and comes to o, which then has no child: at most two turns for each, and one less
pub record Freed (x : ℕ) (live : ℕ → Type 0) (g : List ℕ) (v : View) (c o : ℕ) (ys xs : List ℕ) : Type 0 where
  pub after : View
  pub steps : Steps x live g v c ys after o
  pub few : turns steps < 2 * length ys
  pub empty : (after fst o ≡ 0) × (after lst o ≡ 0)
  pub alike : Alike v after o xs

pub not_none : (d : ℕ) (k n : Tree) → node d k n ≢ none
not_none d k n q = let z : ◌≡◌ {A = ℕ} 0 1 = cc in omega arith

-- the nodes of a tree, in either order
pub post_off : (y : ℕ) (t : Tree) → Off y (pre t) → Off y (post t)
post_off y none h = tt
post_off y (node x k n) h =
    off-append y (post k) (x ∷ post n) (post_off y k (off-left y (pre k) (pre n) h.1)) (h.0, post_off y n (off-right y (pre k) (pre n) h.1))

-- nodes that stay, while others go
stays-over : (live : ℕ → Type 0) (g ys xs : List ℕ) → Apart xs ys → All (Without live g) xs → All (Without live (over ys g)) xs
stays-over live g ys xs d a =
    all_of (Without live (over ys g)) xs
    (λ y t. let w = all_in (Without live g) xs a y t in (w.0, off-over y ys g (apart_in xs ys d y t) w.1))

few-then : {x : ℕ} {live : ℕ → Type 0} {g : List ℕ} {v v' v'' : View} {c c' c'' : ℕ} {ys zs : List ℕ} (s : Steps x live g v c ys v' c')
    (t : Steps x live (over ys g) v' c' zs v'' c'') → turns s ≤ 2 * length ys → turns t < 2 * length zs
    → turns (steps_then s t) < 2 * length (ys ++ zs)
few-then {ys = ys} {zs = zs} s t a b = let e = turns_then s t in let l = length-append ys zs in omega arith

all_left : (P : ℕ → Type 0) (xs ys : List ℕ) → All P (xs ++ ys) → All P xs
all_left P xs ys a = all_of P xs (λ y t. all_in P (xs ++ ys) a y (in_left y xs ys t))

all_right : (P : ℕ → Type 0) (xs ys : List ℕ) → All P (xs ++ ys) → All P ys
all_right P xs ys a = all_of P ys (λ y t. all_in P (xs ++ ys) a y (in_right y xs ys t))

-- a leaf goes, then the rest of its chain
leaf : (x : ℕ) (live : ℕ → Type 0) (g : List ℕ) (w : View) (c o : ℕ) (n : Tree) → w fst c ≡ 0 → c ≢ x → c ≢ o → w par c ≡ o → w nxt c ≡ top n
    → Hang w o n → Off o (pre n) → Off c (pre n) → Without live g c → Without live g o → All (Without live g) (pre n)
    → ((u : View) → n ≢ none → Hang u o n → All (Without live (c ∷ g)) (pre n) → Without live (c ∷ g) o
    → Freed x live (c ∷ g) u (top n) o (post n) (pre n))
    → Freed x live g w c o (c ∷ post n) (c ∷ pre n)
unfolding turns
leaf x live g w c o none hf hx co hp hn s ho hc lc lo ln ih = record {
  after = cut w c;
  steps = up lc (subst (Without live g) (sym hp) lo) hf hx (ap (λ (z : ℕ). or_else z (w par c)) hn ∙ hp) rest;
  few = omega arith;
  empty = (
    at_other _ c 0 o (λ q. co (sym q)) ∙ at-parent (w fst) (w nxt c) ∙ hn,
    at_other _ c 0 o (λ q. co (sym q)) ∙ at-parent (w lst) _ ∙ ap (λ (z : ℕ). last_left z (w lst (w par c))) hn,
  );
  alike = cut-alike w c o hp;
}
  where
    at-parent : (f : ℕ → ℕ) (a : ℕ) → at f (w par c) a o ≡ a
    at-parent f a = ap (at f (w par c) a) (sym hp) ∙ at_same f (w par c) a
leaf x live g w c o (node d k n) hf hx co hp hn s ho hc lc lo ln ih =
    let a = cut-alike w c o hp in
    let hc' : Apart (pre (node d k n)) (c ∷ []) = apart-sym (pre (node d k n)) (c ∷ []) (hc, tt) in
    let r = ih (cut w c) (not_none d k n) (hang-alike w (cut w c) o (c ∷ []) a o (node d k n) ho hc' s)
    (stays-over live g (c ∷ []) (pre (node d k n)) hc' ln) (lo.0, ((λ q. co (sym q)), lo.1)) in
    let few = r.few in
    record {
      after = r.after;
      steps = up lc (subst (Without live g) (sym hp) lo) hf hx (ap (λ (z : ℕ). or_else z (w par c)) hn ∙ or_left d (w par c) s.0) r.steps;
      few = omega arith;
      empty = r.empty;
      alike = record {
        others = λ l y h f. r.alike.others l y h f.1 ∙ a.others l y h (f.0, tt);
        stands = λ f. let p = r.alike.stands f.1 in let q = a.stands (f.0, tt) in (p.0 ∙ q.0, p.1 ∙ q.1, p.2 ∙ q.2);
      };
    }

-- what is below c goes, then c, then the rest of c's chain
inner : (x : ℕ) (live : ℕ → Type 0) (g : List ℕ) (v : View) (c o : ℕ) (k n : Tree) → Hang v o (node c k n) → Off c (pre k ++ pre n) → Apart (pre k) (pre n)
    → Off o (pre k ++ pre n) → c ≢ x → c ≢ o → Without live g c → Without live g o → All (Without live g) (pre n)
    → (k ≢ none → Freed x live g v (top k) c (post k) (pre k))
    → ((g' : List ℕ) (u : View) → n ≢ none → Hang u o n → All (Without live g') (pre n) → Without live g' o → Freed x live g' u (top n) o (post n) (pre n))
    → Freed x live g v c o (post k ++ (c ∷ post n)) (c ∷ (pre k ++ pre n))
unfolding turns
inner x live g v c o none n s hc d ho cx co lc lo ln ih_k ih_n = leaf x live g v c o n s.3 cx co s.1 s.2 s.5 ho hc lc lo ln (ih_n (c ∷ g))
inner x live g v c o (node e k' n') n s hc d ho cx co lc lo ln ih_k ih_n =
    let k : Tree = node e k' n' in
    let r : Freed x live g v (top k) c (post k) (pre k) = ih_k (not_none e k' n') in
    let w : View = r.after in
    let a : Alike v w c (pre k) = r.alike in
    let cn : Off c (pre n) = off-right c (pre k) (pre n) hc in
    let here = a.stands (off-left c (pre k) (pre n) hc) in
    let hn : Hang w o n = hang-alike v w c (pre k) a o n cn (apart-sym (pre n) (pre k) d) s.5 in
    let g' : List ℕ = over (post k) g in
    let stays : (y : ℕ) → Off y (pre k) → Without live g y → Without live g' y = λ y h l. (l.0, off-over y (post k) g (post_off y k h) l.1) in
    let ln' : All (Without live g') (pre n) =
    stays-over live g (post k) (pre n) (apart_of (pre n) (post k) (λ y t. post_off y k (apart_in (pre n) (pre k) (apart-sym (pre n) (pre k) d) y t))) ln in
    let q : Freed x live g' w c o (c ∷ post n) (c ∷ pre n) =
    leaf x live g' w c o n r.empty.0 cx co (here.0 ∙ s.1) (here.2 ∙ s.2) hn (off-right o (pre k) (pre n) ho) cn
    (stays c (off-left c (pre k) (pre n) hc) lc) (stays o (off-left o (pre k) (pre n) ho) lo) ln' (ih_n (c ∷ g')) in
    let first : Steps x live g v c (post k) w c = down lc s.3 s.4.0 r.steps in
    let later : (y : ℕ) → Off y (c ∷ (pre k ++ pre n)) → Off y (c ∷ pre n) = λ y f. (f.0, off-right y (pre k) (pre n) f.1) in
    let lower : (y : ℕ) → Off y (c ∷ (pre k ++ pre n)) → Off y (pre k) = λ y f. off-left y (pre k) (pre n) f.1 in
    record {
      after = q.after;
      steps = steps_then first q.steps;
      few = few-then first q.steps r.few q.few;
      empty = q.empty;
      alike = record {
        others = λ l y h f. q.alike.others l y h (later y f) ∙ a.others l y f.0 (lower y f);
        stands = λ f.
            let p = q.alike.stands (later o f) in
            let b : (l : Link) → w l o ≡ v l o = λ l. a.others l o f.0 (lower o f) in
            (p.0 ∙ b par, p.1 ∙ b prv, p.2 ∙ b nxt);
      };
    }

pub frees : (x : ℕ) (live : ℕ → Type 0) (g : List ℕ) (v : View) (o : ℕ) (t : Tree) → t ≢ none → o ≢ 0 → Hang v o t → NoDup (pre t) → Off o (pre t)
    → Off x (pre t) → All (Without live g) (pre t) → Without live g o → Freed x live g v (top t) o (post t) (pre t)
frees x live g v o none ne oz s nd ho hx l lo = absurd (ne refl)
frees x live g v o (node c k n) ne oz s nd ho hx l lo =
    inner x live g v c o k n s nd.0 (nodup-apart (pre k) (pre n) nd.1) ho.1 (λ q. hx.0 (sym q)) (λ q. ho.0 (sym q))
    l.0 lo (all_right (Without live g) (pre k) (pre n) l.1)
    (λ h. frees x live g v c k h s.0 s.4 (nodup-left (pre k) (pre n) nd.1) (off-left c (pre k) (pre n) nd.0) (off-left x (pre k) (pre n) hx.1)
    (all_left (Without live g) (pre k) (pre n) l.1) l.0)
    (λ g' u h w a b. frees x live g' u o n h oz w (nodup-right (pre k) (pre n) nd.1) (off-right o (pre k) (pre n) ho.1)
    (off-right x (pre k) (pre n) hx.1) a b)
