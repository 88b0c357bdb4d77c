-- The loop below a node, on words, does the steps of the loop on views: a leaf's words follow its view, each freed slot joins the
-- chain, exactly the freed nodes are gone, and the loop takes as many turns as there are steps.
use Rattle.std.specs.Prelude.{◌≡◌, ◌≢◌, List, [], ◌∷◌, ◌++◌, ◌-◌, ℕ, zero, suc, ◌+◌, ◌<◌}
use Rattle.std.proofs.Math.Path.{refl}
use Rattle.std.proofs.Common.{sym, ap, ◌∙◌, subst, inr, append-nil, append_assoc, suc-ne-zero, arith, ne_eqb}
use Rattle.std.proofs.Math.Decide.{ℕ_discrete}
use Rattle.link.specs.Words.{FIRST, link, set_link}
use Rattle.link.specs.Found.{Found}
use Rattle.link.specs.FoundLaws.{is_found}
use Rattle.link.specs.declared.header.Header.{Header}
use Rattle.rules.specs.Links.{Link, par, prv, nxt, fst, lst, View}
use Rattle.follow.specs.Point.{at, at_same, at_other}
use Rattle.forest.specs.View.{upd, or_else}
use Rattle.forest.specs.Found.{Nodes}
use Rattle.forest.specs.Edits.{Without}
use Rattle.forest.specs.Looks.{Looks, looks_write}
use Rattle.forest.specs.Kept.{only_kept}
use Rattle.forest.specs.Frees.{bare, last_left, cut, over, Steps, rest, down, up, turns}
use Rattle.arena.specs.FreeList.{free_node}
use Rattle.removal.specs.declared.id.Turn.{Turn}
use Rattle.removal.specs.Descendants.{turned, front_left, onward, leaf_freed, turn, remove_descendants}
use Rattle.removal.specs.DescendantLaws.{descendants-step, only-front, turn_down, turn-home, turn-leaf}
use Rattle.removed.specs.Gone.{joins, joining, Gone}
use Rattle.removed.specs.GoneLaws.{gone-kept, gone-then}
use Rattle.removed.specs.Stands.{Stands, without-nodes, stands_see, stands_live, stands-links, stands-freed, stands-gone}

-- ---- a leaf leaves its parent's chain

at_self : (f : ℕ → ℕ) (x y : ℕ) → f y ≡ at f x (f x) y
at_self f x y = go (ℕ_discrete y x)
  where
    go : Dec (y ≡ x) → f y ≡ at f x (f x) y
    go (yes e) = rw e (sym (at_same f x (f x)))
    go (no n) = sym (at_other f x (f x) y n)

-- writing what stands there
upd-self : (v : View) (x : ℕ) (k : Link) (y : ℕ) → upd v lst x (v lst x) k y ≡ v k y
upd-self v x par y = refl
upd-self v x prv y = refl
upd-self v x nxt y = refl
upd-self v x fst y = refl
upd-self v x lst y = sym (at_self (v lst) x y)

abbrev front : View → ℕ → ℕ → View
front v p n = upd (upd v fst p n) lst p (last_left n (v lst p))

stands-front : (m : List ℕ) (h : Header) (live : ℕ → Type 0) (N : Nodes live) (v : View) (fs : List ℕ) (p n : ℕ) → live p → Stands m h live v fs
    → Stands (front_left m p n) h live (front v p n) fs
unfolding front_left
stands-front m h live N v fs p n l S = stands-links S (only-front m p n) (looks n)
  where
    first : (n : ℕ) → Looks (set_link m p FIRST n) live h.used (upd v fst p n)
    first n = looks_write m live N h.used v fst p n (inr l) S.looks

    looks : (n : ℕ) → Looks (front_left m p n) live h.used (front v p n)
    looks zero = looks_write _ live N h.used _ lst p 0 (inr l) (first zero)
    looks (suc n) = simp (ne_eqb (suc n) 0 (suc-ne-zero n)) (record {
      room = (first (suc n)).room;
      alive = (first (suc n)).alive;
      sees = λ k y w. (first (suc n)).sees k y w ∙ sym (upd-self (upd v fst p (suc n)) p k y);
    })

bare-other : (v : View) (c : ℕ) (k : Link) (y : ℕ) → y ≢ c → v k y ≡ bare v c k y
bare-other v c par y h = sym (at_other (v par) c 0 y h)
bare-other v c prv y h = sym (at_other (v prv) c 0 y h)
bare-other v c nxt y h = sym (at_other (v nxt) c 0 y h)
bare-other v c fst y h = sym (at_other (v fst) c 0 y h)
bare-other v c lst y h = sym (at_other (v lst) c 0 y h)

onward_is : (n p : ℕ) → onward n p ≡ or_else n p
unfolding onward
onward_is zero p = refl
onward_is (suc n) p = simp (ne_eqb (suc n) 0 (suc-ne-zero n))

module _ (m : List ℕ) (h : Header) (live : ℕ → Type 0) (N : Nodes live) (g : List ℕ) (v : View) (fs : List ℕ) (S : Stands m h (Without live g) v fs) (c : ℕ)
    (lc : Without live g c) (lp : Without live g (v par c)) where
  abbrev m₁ : List ℕ
  m₁ = front_left m (v par c) (v nxt c)

  leaf_is : leaf_freed m h c ≡ ((free_node m₁ h c).0, turned (free_node m₁ h c).1 (or_else (v nxt c) (v par c)))
  unfolding leaf_freed
  leaf_is = rw (S.looks.sees nxt c lc, S.looks.sees par c lc, onward_is (v nxt c) (v par c)) refl

  off-front : Stands m₁ h (Without live g) (front v (v par c) (v nxt c)) fs
  off-front = stands-front m h (Without live g) (without-nodes live N g) v fs (v par c) (v nxt c) lp S

  leaf-stands : Stands (free_node m₁ h c).0 (free_node m₁ h c).1 (Without live (c ∷ g)) (cut v c) (fs ++ joins c)
  leaf-stands =
      stands_see (stands_live (stands-freed off-front c lc) (Without live (c ∷ g))
      (λ y. (λ w. (w.0.0, (w.1.0, w.0.1)), λ w. ((w.0, w.1.1), (w.1.0, tt)))))
      (cut v c) (λ k y w. bare-other (front v (v par c) (v nxt c)) c k y w.1.0)

  leaf-gone : Gone m h (c ∷ []) (free_node m₁ h c).0 (free_node m₁ h c).1
  leaf-gone =
      let only = only-front m (v par c) (v nxt c) in
      gone-then (gone-kept m m₁ h only.size (only_kept only)) (stands-gone off-front c lc)

-- ---- the loop's turns

over_none : (n : ℕ) (m : List ℕ) (h : Header) (x : ℕ) → remove_descendants n m h x 0 ≡ (m, h)
unfolding remove_descendants
over_none zero m h x = refl
over_none (suc n) m h x = refl

module _ (n : ℕ) (m : List ℕ) (h : Header) (x c : ℕ) (fuel : 0 < n) (some : c ≢ 0) where
  abbrev Onward : List ℕ × Turn → Type 0
  Onward r = remove_descendants n m h x c ≡ remove_descendants (n - 1) r.0 r.1.header x r.1.cursor

  turns_on : Onward (turn m h x c)
  turns_on = simp (ne_eqb c 0 some) at (descendants-step n m h x c fuel)

  pub turn-into : (d : ℕ) → link m c FIRST ≡ d → d ≢ 0 → remove_descendants n m h x c ≡ remove_descendants (n - 1) m h x d
  turn-into d e k = subst Onward (sym (turn_down m h x c (sym e) k)) turns_on

  turn_freeing : link m c FIRST ≡ 0 → c ≢ x → Found m h.used c → Onward (leaf_freed m h c)
  turn_freeing e k f = subst Onward (turn-leaf m h x c refl e k (is_found m h.used c f)) turns_on

  pub turn_last : link m c FIRST ≡ 0 → c ≡ x → remove_descendants n m h x c ≡ (m, h)
  turn_last e k = subst Onward (sym (turn-home m h x c refl e k)) turns_on ∙ over_none (n - 1) m h x

-- ---- what the loop comes to

pub record Run (x : ℕ) (live : ℕ → Type 0) (m : List ℕ) (h : Header) (c : ℕ) (fs g : List ℕ) (v' : View) (c' : ℕ) (ys : List ℕ) (t : ℕ) : Type 0 where
  pub words : List ℕ
  pub head : Header
  pub stands : Stands words head (Without live (over ys g)) v' (fs ++ joining ys)
  pub gone : Gone m h ys words head
  pub goes : (n k : ℕ) → k ≡ t + n → remove_descendants k m h x c ≡ remove_descendants n words head x c'

pub runs : (x : ℕ) (live : ℕ → Type 0) (N : Nodes live) {g : List ℕ} {v v' : View} {c c' : ℕ} {ys : List ℕ} (s : Steps x live g v c ys v' c')
    (m : List ℕ) (h : Header) (fs : List ℕ) → Stands m h (Without live g) v fs → Run x live m h c fs g v' c' ys (turns s)
unfolding turns
runs x live N {g = g} {v = v} {c = c} rest m h fs S = record {
  words = m;
  head = h;
  stands = subst (Stands m h (Without live g) v) (sym (append-nil fs)) S;
  gone = gone-kept m m h refl (λ s. (refl, refl));
  goes = λ n k e. ap (λ (z : ℕ). remove_descendants z m h x c) (omega arith);
}
runs x live N {c = c} (down {d = d} lc e dz s) m h fs S =
    let r = runs x live N s m h fs S in
    record {
      words = r.words;
      head = r.head;
      stands = r.stands;
      gone = r.gone;
      goes = λ n k q. turn-into k m h x c (omega arith) (N.some c lc.0) d (S.looks.sees fst c lc ∙ e) dz ∙ r.goes n (k - 1) (omega arith);
    }
runs x live N {g = g} {v = v} {v' = v'} {c = c} {ys = _ ∷ ys} (up {d = d} lc lp e cx q s) m h fs S =
    let a = free_node (front_left m (v par c) (v nxt c)) h c in
    let r = runs x live N s a.0 a.1 (fs ++ joins c) (leaf-stands m h live N g v fs S c lc lp) in
    record {
      words = r.words;
      head = r.head;
      stands = subst (Stands r.words r.head (Without live (over ys (c ∷ g))) v') (append_assoc fs (joins c) (joining ys)) r.stands;
      gone = gone-then (leaf-gone m h live N g v fs S c lc lp) r.gone;
      goes = λ n k w.
          turn_freeing k m h x c (omega arith) (N.some c lc.0) (S.looks.sees fst c lc ∙ e) cx ((S.looks.alive c).0 lc)
          ∙ ap (λ (z : List ℕ × Turn). remove_descendants (k - 1) z.0 z.1.header x z.1.cursor) (leaf_is m h live N g v fs S c lc lp)
          ∙ ap (remove_descendants (k - 1) a.0 a.1 x) q ∙ r.goes n (k - 1) (omega arith);
    }
