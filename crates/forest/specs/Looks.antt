-- Words follow a view: writing a link into memory that looks like v gives memory that looks like v with that link changed, and
-- what is found stays so. One law over the link; writing a link of none does nothing.
use Rattle.std.specs.Prelude.{◌≡◌, refl, ◌≢◌, ◌⊎◌, ◌↔◌, Bool, true, false, List, ℕ, ◌*◌, ◌≤◌, ◌<◌, eqb, T, length}
use Rattle.std.proofs.Common.{sym, ap, ◌∙◌, subst, inl, inr, arith, eqb→eq, lit<}
use Rattle.std.proofs.Math.Decide.{ℕ_discrete}
use Rattle.std.proofs.Math.Dec.{eqb_refl}
use Rattle.link.specs.Ids.{slot_of, stamp_of, kind_of}
use Rattle.link.specs.Words.{width, STAMP, word, link, set_link}
use Rattle.link.specs.WordLaws.{link-some, link-other, set_link_none, set_link-same, set_link-slot, set_link-other, length-set_link}
use Rattle.link.specs.Found.{Found}
use Rattle.rules.specs.Links.{Link, par, prv, nxt, fst, lst, word_of, View, view}
use Rattle.follow.specs.Point.{at, at_same, at_other}
use Rattle.forest.specs.View.{pick, upd, SameOn}
use Rattle.forest.specs.Found.{Nodes, found_one}

pub word-inside : (k : Link) → word_of k < width
word-inside par = lit< tt
word-inside prv = lit< tt
word-inside nxt = lit< tt
word-inside fst = lit< tt
word-inside lst = lit< tt

word-not-stamp : (k : Link) → STAMP ≢ word_of k
word-not-stamp par e = omega arith
word-not-stamp prv e = omega arith
word-not-stamp nxt e = omega arith
word-not-stamp fst e = omega arith
word-not-stamp lst e = omega arith

-- where stamps stay, so does what is found
pub found-kept : (m m' : List ℕ) (used : ℕ) → ((s : ℕ) → word m' s STAMP ≡ word m s STAMP) → (y : ℕ) → Found m used y ↔ Found m' used y
found-kept m m' used same y = (stays m m' (same (slot_of y)), stays m' m (sym (same (slot_of y))))
  where
    stays : (a b : List ℕ) → word b (slot_of y) STAMP ≡ word a (slot_of y) STAMP → Found a used y → Found b used y
    stays a b e f = record { from = f.from; upto = f.upto; small = f.small; stamp = ap stamp_of e ∙ f.stamp; kind = ap kind_of e ∙ f.kind }

view_write : (m : List ℕ) (used : ℕ) → used * width ≤ length m → (k : Link) (x a : ℕ) → Found m used x
    → SameOn (Found m used) (view (set_link m x (word_of k) a)) (upd (view m) k x a)
view_write m used room k x a f k' y g = go (eqb (word_of k') (word_of k)) refl (ℕ_discrete y x)
  where
    go : (b : Bool) → eqb (word_of k') (word_of k) ≡ b → Dec (y ≡ x)
        → link (set_link m x (word_of k) a) y (word_of k') ≡ pick b (at (view m k') x a) (view m k') y
    go true e (yes q) =
        rw (q, eqb→eq (word_of k') (word_of k) (rw e tt))
        (link-some _ x (word_of k) f.from
        ∙ set_link-same m x (word_of k) a (word-inside k) f.from (let u = f.upto in omega arith) ∙ sym (at_same (view m k') x a))
    go true e (no h) =
        link-some _ y (word_of k') g.from
        ∙ set_link-slot m x (word_of k) a (slot_of y) (word_of k') (word-inside k) (word-inside k') g.from (λ q. h (found_one m used y x g f q))
        ∙ sym (at_other (view m k') x a y h ∙ link-some m y (word_of k') g.from)
    go false e d =
        link-other m x (word_of k) a y (word_of k') (word-inside k) (word-inside k')
        (λ r. subst T e (subst (λ (z : ℕ). T (eqb (word_of k') z)) r (eqb_refl (word_of k'))))

-- the links of the live nodes, which are the found ones, are those of v
pub record Looks (m : List ℕ) (live : ℕ → Type 0) (used : ℕ) (v : View) : Type 0 where
  pub room : used * width ≤ length m
  pub alive : (y : ℕ) → live y ↔ Found m used y
  pub sees : SameOn live (view m) v

pub looks_itself : (m : List ℕ) (used : ℕ) → used * width ≤ length m → Looks m (Found m used) used (view m)
looks_itself m used room = record { room = room; alive = λ y. (λ f. f, λ f. f); sees = λ _ _ _. refl }

upd-same_on : (live : ℕ → Type 0) (v w : View) (k : Link) (x a : ℕ) → SameOn live v w → SameOn live (upd v k x a) (upd w k x a)
upd-same_on live v w k x a h k' y l = go (eqb (word_of k') (word_of k)) (ℕ_discrete y x)
  where
    go : (b : Bool) → Dec (y ≡ x) → pick b (at (v k') x a) (v k') y ≡ pick b (at (w k') x a) (w k') y
    go false d = h k' y l
    go true (yes q) = rw q (at_same (v k') x a ∙ sym (at_same (w k') x a))
    go true (no n) = at_other (v k') x a y n ∙ h k' y l ∙ sym (at_other (w k') x a y n)

pub looks_write : (m : List ℕ) (live : ℕ → Type 0) (N : Nodes live) (used : ℕ) (v : View) (k : Link) (x a : ℕ) → (x ≡ 0) ⊎ live x
    → Looks m live used v → Looks (set_link m x (word_of k) a) live used (upd v k x a)
looks_write m live N used v k x a (inl e) L = rw (set_link_none m x (word_of k) a (omega arith)) (record {
  room = L.room;
  alive = L.alive;
  sees = λ k' y l. L.sees k' y l ∙ go k' y l (eqb (word_of k') (word_of k));
})
  where
    go : (k' : Link) (y : ℕ) → live y → (b : Bool) → v k' y ≡ pick b (at (v k') x a) (v k') y
    go k' y l true = sym (at_other (v k') x a y (λ q. N.some y l (q ∙ e)))
    go k' y l false = refl
looks_write m live N used v k x a (inr l) L = record {
  room = rw length-set_link L.room;
  alive = λ y. (λ w. (stays y).0 ((L.alive y).0 w), λ w. (L.alive y).1 ((stays y).1 w));
  sees = λ k' y w. view_write m used L.room k x a ((L.alive x).0 l) k' y ((L.alive y).0 w) ∙ upd-same_on live (view m) v k x a L.sees k' y w;
}
  where
    stays : (y : ℕ) → Found m used y ↔ Found (set_link m x (word_of k) a) used y
    stays = found-kept m (set_link m x (word_of k) a) used (λ s. set_link-other m x (word_of k) a s STAMP (word-inside k) (omega arith) (word-not-stamp k))
