-- The tests of one node by its words and its neighbours' say yes exactly when it passes those of `Local`.
-- From the laws of found: of a found identifier, links and words of its slot are the same.
use Rattle.std.specs.Prelude.{◌≡◌, ◌≢◌, ◌↔◌, List, ℕ}
use Rattle.std.proofs.Math.Path.{refl, sym}
use Rattle.std.proofs.Common.{◌∙◌}
use Rattle.std.proofs.Math.Bool.{Bool, true, false, cond}
use Rattle.std.proofs.Math.Decide.{ℕ_discrete}
use borrow.Author.Tests.{eqb-true, eq-eqb}
use Rattle.link.specs.Ids.{slot_of}
use Rattle.link.specs.Words.{word}
use Rattle.link.specs.WordLaws.{link-some}
use Rattle.link.specs.Found.{Found}
use Rattle.link.specs.FoundLaws.{found_is, is_found}
use Rattle.rules.specs.Links.{Link, par, prv, nxt, fst, lst, word_of, View, view}
use Rattle.forest.specs.Found.{found_some}
use Rattle.forest.specs.Local.{Local}
use Rattle.examine.specs.Slots.{has_b, children_ok, next_ok, lead_ok, none_or_found_b, previous_ok, kin_ok}
use Rattle.examine.specs.TestLaws.{both_true, none_true, has-true}

-- What `Local` says of one node.
pub record LocalAt (v : View) (live : ℕ → Type 0) (x : ℕ) : Type 0 where
  pub found : (k : Link) → v k x ≢ 0 → live (v k x)
  pub both : (v fst x ≡ 0) ↔ (v lst x ≡ 0)
  pub first : v fst x ≢ 0 → (v par (v fst x) ≡ x) × (v prv (v fst x) ≡ 0)
  pub last : v lst x ≢ 0 → (v par (v lst x) ≡ x) × (v nxt (v lst x) ≡ 0)
  pub after : v nxt x ≢ 0 → (v prv (v nxt x) ≡ x) × (v par (v nxt x) ≡ v par x)
  pub before : v prv x ≢ 0 → v nxt (v prv x) ≡ x
  pub leads : v prv x ≡ 0 → v par x ≢ 0 → v fst (v par x) ≡ x

pub local-each : (v : View) (live : ℕ → Type 0) → Local v live ↔ ((x : ℕ) → live x → LocalAt v live x)
local-each v live = (
  λ T x l. record {
    found = T.found x l;
    both = T.both x l;
    first = T.first x l;
    last = T.last x l;
    after = T.after x l;
    before = T.before x l;
    leads = T.leads x l;
  },
  λ h. record {
    found = λ x l. (h x l).found;
    both = λ x l. (h x l).both;
    first = λ x l. (h x l).first;
    last = λ x l. (h x l).last;
    after = λ x l. (h x l).after;
    before = λ x l. (h x l).before;
    leads = λ x l. (h x l).leads;
  },
)

module _ (m : List ℕ) (used : ℕ) where
  pub view-word : (k : Link) (x : ℕ) → Found m used x → view m k x ≡ word m (slot_of x) (word_of k)
  view-word k x f = link-some m x (word_of k) f.from

  has-links : (y : ℕ) (j : Link) (a : ℕ) (k : Link) (b : ℕ)
      → (has_b m used y (word_of j) a (word_of k) b ≡ true) ↔ (Found m used y × (view m j y ≡ a) × (view m k y ≡ b))
  has-links y j a k b = (
    λ e. let w = (has-true m used y (word_of j) a (word_of k) b).0 e in (w.0, view-word j y w.0 ∙ w.1, view-word k y w.0 ∙ w.2),
    λ w. (has-true m used y (word_of j) a (word_of k) b).1 (w.0, sym (view-word j y w.0) ∙ w.1, sym (view-word k y w.0) ∙ w.2),
  )

  -- Each test, of the node x with any links.
  module _ (x : ℕ) where
    children-true : (first last : ℕ) → (children_ok m used x first last ≡ true)
        ↔ ((first ≡ 0 → last ≡ 0)
        × (first ≢ 0 → (Found m used first × (view m par first ≡ x) × (view m prv first ≡ 0)) × (Found m used last × (view m par last ≡ x) × (view m nxt last ≡ 0))))
    unfolding children_ok
    children-true first last = (
      λ e.
          let w = (none_true first _ _).0 e in
          (λ z. eqb-true last 0 (w.0 z), λ n. let (a, b) = (both_true _ _).0 (w.1 n) in ((has-links first par x prv 0).0 a, (has-links last par x nxt 0).0 b)),
      λ w. (none_true first _ _).1 (λ z. eq-eqb last 0 (w.0 z), λ n. (both_true _ _).1 ((has-links first par x prv 0).1 (w.1 n).0, (has-links last par x nxt 0).1 (w.1 n).1)),
    )

    next-true : (parent next : ℕ) → (next_ok m used x parent next ≡ true) ↔ (next ≢ 0 → Found m used next × (view m prv next ≡ x) × (view m par next ≡ parent))
    unfolding next_ok
    next-true parent next = (
      λ e n. (has-links next prv x par parent).0 (((none_true next _ _).0 e).1 n),
      λ w. (none_true next _ _).1 (λ _. refl, λ n. (has-links next prv x par parent).1 (w n)),
    )

    previous-true : (parent previous : ℕ) → (previous_ok m used x parent previous ≡ true)
        ↔ ((parent ≢ 0 → Found m used parent) × (previous ≢ 0 → Found m used previous × (view m nxt previous ≡ x)) × (previous ≡ 0 → parent ≢ 0 → view m fst parent ≡ x))
    unfolding previous_ok lead_ok none_or_found_b
    previous-true parent previous = (to, from)
      where
        to : previous_ok m used x parent previous ≡ true
            → (parent ≢ 0 → Found m used parent) × (previous ≢ 0 → Found m used previous × (view m nxt previous ≡ x)) × (previous ≡ 0 → parent ≢ 0 → view m fst parent ≡ x)
        to e = (λ k. parent-found k (ℕ_discrete previous 0), λ n. let w = (behind n).0 in (w.0, w.1), λ z n. (heads z n).1)
          where
            heads : previous ≡ 0 → parent ≢ 0 → Found m used parent × (view m fst parent ≡ x) × (view m fst parent ≡ x)
            heads z n = (has-links parent fst x fst x).0 (((none_true parent _ _).0 (((none_true previous _ _).0 e).0 z)).1 n)

            behind : previous ≢ 0 → (Found m used previous × (view m nxt previous ≡ x) × (view m nxt previous ≡ x)) × (parent ≢ 0 → Found m used parent)
            behind n =
                let (a, b) = (both_true _ _).0 (((none_true previous _ _).0 e).1 n) in
                ((has-links previous nxt x nxt x).0 a, λ k. found_is m used parent (((none_true parent _ _).0 b).1 k))

            parent-found : parent ≢ 0 → Dec (previous ≡ 0) → Found m used parent
            parent-found k (yes z) = (heads z k).0
            parent-found k (no n) = (behind n).1 k

        from : (parent ≢ 0 → Found m used parent) × (previous ≢ 0 → Found m used previous × (view m nxt previous ≡ x)) × (previous ≡ 0 → parent ≢ 0 → view m fst parent ≡ x)
            → previous_ok m used x parent previous ≡ true
        from w = (none_true previous _ _).1 (
          λ z. (none_true parent _ _).1 (λ _. refl, λ n. (has-links parent fst x fst x).1 (w.0 n, w.2 z n, w.2 z n)),
          λ n. (both_true _ _).1 (
            (has-links previous nxt x nxt x).1 ((w.1 n).0, (w.1 n).1, (w.1 n).1),
            (none_true parent _ _).1 (λ _. refl, λ k. is_found m used parent (w.0 k)),
          ),
        )

    pub kin-true : Found m used x → (kin_ok m used (slot_of x) x ≡ true) ↔ LocalAt (view m) (Found m used) x
    unfolding kin_ok
    kin-true f = rw (sym (view-word par x f), sym (view-word prv x f), sym (view-word nxt x f), sym (view-word fst x f), sym (view-word lst x f)) (to, from)
      where
        Tests : Bool
        Tests = cond (previous_ok m used x (view m par x) (view m prv x)) (cond (next_ok m used x (view m par x) (view m nxt x)) (children_ok m used x (view m fst x) (view m lst x)) false) false

        to : Tests ≡ true → LocalAt (view m) (Found m used) x
        to e =
            let (e₁, w) = (both_true _ _).0 e in
            let (e₂, e₃) = (both_true _ _).0 w in
            let p = (previous-true (view m par x) (view m prv x)).0 e₁ in
            let n = (next-true (view m par x) (view m nxt x)).0 e₂ in
            let c = (children-true (view m fst x) (view m lst x)).0 e₃ in
            let some : (view m lst x ≢ 0 → view m fst x ≢ 0) = λ h z. h (c.0 z) in
            record {
              found = each p.0 (λ h. (p.1 h).0) (λ h. (n h).0) (λ h. (c.1 h).0.0) (λ h. (c.1 (some h)).1.0);
              both = (c.0, λ z. none (ℕ_discrete (view m fst x) 0) (λ h. found_some m used _ (c.1 h).1.0 z));
              first = λ h. let r = (c.1 h).0 in (r.1, r.2);
              last = λ h. let r = (c.1 (some h)).1 in (r.1, r.2);
              after = λ h. let r = n h in (r.1, r.2);
              before = λ h. (p.1 h).1;
              leads = p.2;
            }
          where
            none : Dec (view m fst x ≡ 0) → (view m fst x ≢ 0 → ⊥) → view m fst x ≡ 0
            none (yes z) h = z
            none (no n) h = absurd (h n)

            each : (view m par x ≢ 0 → Found m used (view m par x)) → (view m prv x ≢ 0 → Found m used (view m prv x)) → (view m nxt x ≢ 0 → Found m used (view m nxt x))
                → (view m fst x ≢ 0 → Found m used (view m fst x)) → (view m lst x ≢ 0 → Found m used (view m lst x)) → (k : Link) → view m k x ≢ 0 → Found m used (view m k x)
            each a b c d e par = a
            each a b c d e prv = b
            each a b c d e nxt = c
            each a b c d e fst = d
            each a b c d e lst = e

        from : LocalAt (view m) (Found m used) x → Tests ≡ true
        from T = (both_true _ _).1 (
          (previous-true (view m par x) (view m prv x)).1 (T.found par, λ h. (T.found prv h, T.before h), T.leads),
          (both_true _ _).1 (
            (next-true (view m par x) (view m nxt x)).1 (λ h. let r = T.after h in (T.found nxt h, r.0, r.1)),
            (children-true (view m fst x) (view m lst x)).1 (
              T.both.0,
              λ h.
                  let k : view m lst x ≢ 0 = λ z. h (T.both.1 z) in
                  let r = T.first h in
                  let s = T.last k in
                  ((T.found fst h, r.0, r.1), (T.found lst k, s.0, s.1)),
            ),
          ),
        )
