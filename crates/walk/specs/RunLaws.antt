-- One edge more of a run, how a run ends, one run after another; and what follows an edge by the words of its slot.
-- From the laws of the traversal and of found identifiers.
use Rattle.std.specs.Prelude.{◌≡◌, refl, ◌⊎◌, Bool, true, false, List, ◌-◌, ◌*◌, ℕ, zero, suc, ◌+◌, ◌<◌, ◌≤◌, get_or, set}
use Rattle.std.proofs.Common.{sym, ap, ◌∙◌, subst, inl, inr, arith, length-set}
use borrow.Author.Tests.{eq-eqb, ne_eqb}
use Rattle.link.specs.Ids.{slot_of}
use Rattle.link.specs.Words.{PARENT, NEXT, FIRST, width, word, link}
use Rattle.link.specs.WordLaws.{link-some}
use Rattle.link.specs.Found.{found_b}
use Rattle.walk.specs.Edges.{edge_id, edge_code, next_traverse, next_of_next}
use Rattle.walk.specs.Runs.{yield_from, Gone, starting, ending, reached_at, Ended, Ran}
use Rattle.walk.specs.WalkLaws.{yield-out, yield-over, yield_broken, turn-edge, turn-lost}
use Rattle.walk.specs.declared.edge.Edge.{Edge}
use Rattle.walk.specs.declared.edge.Edge.TheVariants.{Start, End}
use Rattle.walk.specs.declared.edge.Step.{Step}
use Rattle.walk.specs.declared.edge.Step.TheVariants as S
use Rattle.walk.specs.declared.run.Reached.{Reached}

-- What is next, told apart.
pub ending_starting : (i k : ℕ) → ending i ≡ starting k → ⊥
ending_starting i k e = cc

pub lost_starting : (k : ℕ) → S.Broken ≡ starting k → ⊥
lost_starting k e = cc

pub over_starting : (k : ℕ) → S.Over ≡ starting k → ⊥
over_starting k e = cc

pub starting_ending : (i k : ℕ) → starting i ≡ ending k → ⊥
starting_ending i k e = cc

pub over_ending : (k : ℕ) → S.Over ≡ ending k → ⊥
over_ending k e = cc

pub lost_ending : (k : ℕ) → S.Broken ≡ ending k → ⊥
lost_ending k e = cc

pub ending-lost : (i : ℕ) → ending i ≡ S.Broken → ⊥
ending-lost i e = cc

pub starting-lost : (i : ℕ) → starting i ≡ S.Broken → ⊥
starting-lost i e = cc

-- An edge of one kind, or none, is none of the other kind.
pub end-not_start : (next : Step) {e : Edge} {i : ℕ} → next ≡ S.Edge e → e ≡ End i → (id : ℕ) → next ≡ S.Edge (Start id) → ⊥
end-not_start next p q id r = cc

pub start-not_end : (next : Step) {e : Edge} {i : ℕ} → next ≡ S.Edge e → e ≡ Start i → (id : ℕ) → next ≡ S.Edge (End id) → ⊥
start-not_end next p q id r = cc

pub none-not : (out : ℕ → Edge) (next : Step) → ((e : Edge) → next ≡ S.Edge e → ⊥) → (id : ℕ) → next ≡ S.Edge (out id) → ⊥
none-not out next n id r = n (out id) r

-- ---- one edge more

module _ {m : List ℕ} {used root budget : ℕ} {next₀ : Step} {list₀ : List ℕ} {count₀ : ℕ} where
  pub gone-edge : (e : Edge) (list : List ℕ) (count : ℕ) {id code : ℕ} {after : Step} {found : Bool}
      → Gone m used root budget next₀ list₀ count₀ (S.Edge e) list count → count < budget → id ≡ edge_id e → found ≡ found_b m used id → found ≡ true
      → code ≡ edge_code e → after ≡ next_of_next m root e → Gone m used root budget next₀ list₀ count₀ after (set list count code) (count + 1)
  gone-edge e list count {id} {code} {after} g h i f t c a =
      let b = g.from in
      let q : budget - (count + 1) ≡ budget - count - 1 = omega arith in
      record {
        from = omega arith;
        upto = omega arith;
        places = length-set list count code ∙ g.places;
        rest = ap (λ (n : ℕ). yield_from n m used root after (set list count code) (count + 1)) q
            ∙ turn-edge (budget - count) m used root (S.Edge e) list count (omega arith) g.rest e refl i f t c a;
      }

  -- How a run ends: after an edge that it wrote, at one that is not found, or with the budget.
  pub ran-edge : (out : ℕ → Step) (next : Step) (list : List ℕ) (count : ℕ) → ((id : ℕ) → next ≡ out id → ⊥) → count₀ < count
      → Gone m used root budget next₀ list₀ count₀ next list count → Ran m used root budget next₀ list₀ count₀ out next list count
  ran-edge out next list count n h g = record { gone = g; moves = inl h; full = λ id e. absurd (n id e) }

  pub ran-lost : (out : ℕ → Step) (n : (i : ℕ) → S.Broken ≡ out i → ⊥) (e : Edge) (list : List ℕ) (count : ℕ) {id : ℕ} {found : Bool}
      → Gone m used root budget next₀ list₀ count₀ (S.Edge e) list count → count < budget → id ≡ edge_id e → found ≡ found_b m used id → found ≡ false
      → Ran m used root budget next₀ list₀ count₀ out S.Broken list count
  ran-lost out n e list count g h i f t = record {
    gone = record {
      from = g.from;
      upto = g.upto;
      places = g.places;
      rest = yield_broken (budget - count) m used root list count (omega arith)
          ∙ turn-lost (budget - count) m used root (S.Edge e) list count (omega arith) g.rest e refl i f t;
    };
    moves = inr refl;
    full = λ id e. absurd (n id e);
  }

  pub ran-full : (out : ℕ → Step) (next : Step) (list : List ℕ) (count : ℕ) → budget ≤ count → count₀ < budget
      → Gone m used root budget next₀ list₀ count₀ next list count → Ran m used root budget next₀ list₀ count₀ out next list count
  ran-full out next list count h k g = record { gone = g; moves = inl (omega arith); full = λ _ _. h }

  -- End of a node that is found, as it was written.
  pub gone-end : (x : ℕ) (list : List ℕ) (count : ℕ) {next : Step} {list' : List ℕ} {count' : ℕ} {found : Bool}
      → Gone m used root budget next₀ list₀ count₀ (S.Edge (End x)) list count → count < budget → found ≡ found_b m used x → found ≡ true
      → Ended m root x list count next list' count' → Gone m used root budget next₀ list₀ count₀ next list' count'
  gone-end x list count {next} {list'} {count'} g h f t w =
      subst (λ (l : List ℕ). Gone m used root budget next₀ list₀ count₀ next l count') (sym w.place)
      (subst (λ (k : ℕ). Gone m used root budget next₀ list₀ count₀ next (set list count (x + 32768)) k) (sym w.one)
      (gone-edge (End x) list count g h refl f t refl w.after))

  pub ran-end : (out : ℕ → Step) (x : ℕ) (list : List ℕ) (count : ℕ) {next : Step} {list' : List ℕ} {count' : ℕ} {found : Bool}
      → Gone m used root budget next₀ list₀ count₀ (S.Edge (End x)) list count → count < budget → found ≡ found_b m used x → found ≡ true
      → Ended m root x list count next list' count' → ((id : ℕ) → next ≡ out id → ⊥) → Ran m used root budget next₀ list₀ count₀ out next list' count'
  ran-end out x list count {next} {list'} {count'} g h f t w n =
      let b = g.from in
      let o = w.one in
      ran-edge out next list' count' n (omega arith) (gone-end x list count g h f t w)

-- The end of a run as it is handed back.
pub ran_reached : (m : List ℕ) (used root budget : ℕ) (next : Step) (list : List ℕ) (count₀ : ℕ) (out : ℕ → Step) (list' : List ℕ)
    {count : ℕ} {next' : Step} {r : Reached} → r ≡ reached_at count next' → Ran m used root budget next list count₀ out next' list' count
    → Ran m used root budget next list count₀ out r.next list' r.count
ran_reached m used root budget next list count₀ out list' e x =
    subst (λ (q : Reached). Ran m used root budget next list count₀ out q.next list' q.count) (sym e) x

pub ended_reached : (m : List ℕ) (root x : ℕ) (list : List ℕ) (count : ℕ) {next : Step} {r : Reached} → r ≡ reached_at (count + 1) next
    → next ≡ next_of_next m root (End x) → Ended m root x list count r.next (set list count (x + 32768)) r.count
ended_reached m root x list count e a =
    subst (λ (q : Reached). Ended m root x list count q.next (set list count (x + 32768)) q.count) (sym e) (record { place = refl; one = refl; after = a })

pub gone_none : (m : List ℕ) (used root budget : ℕ) (next : Step) (list : List ℕ) (count : ℕ) → count ≤ budget → Gone m used root budget next list count next list count
gone_none m used root budget next list count h = record { from = omega arith; upto = h; places = refl; rest = refl }

-- A word counted from the end of its slot is the link.
pub link-end : (m : List ℕ) (id end k : ℕ) → end ≡ slot_of id * width → 0 < end → get_or m (end - 7 + k) 0 ≡ link m id k
unfolding word
link-end m id end k e h =
    let some : 0 < slot_of id = omega arith in
    let at : end - 7 + k ≡ (slot_of id - 1) * 7 + k = omega arith in
    ap (λ (i : ℕ). get_or m i 0) at ∙ sym (link-some m id k some)

-- What follows an edge, by the links of its node.
module _ (m : List ℕ) (root id : ℕ) where
  pub after-leaf : {child : ℕ} → child ≡ link m id FIRST → child ≡ 0 → S.Edge (End id) ≡ next_of_next m root (Start id)
  unfolding next_of_next next_traverse
  after-leaf c z = simp (eq-eqb (link m id FIRST) 0 (sym c ∙ z))

  pub after-child : {child : ℕ} → child ≡ link m id FIRST → (child ≡ 0 → ⊥) → S.Edge (Start child) ≡ next_of_next m root (Start id)
  unfolding next_of_next next_traverse
  after-child c z = simp (ne_eqb (link m id FIRST) 0 (λ e. z (c ∙ e))) (ap (λ (y : ℕ). S.Edge (Start y)) c)

  pub after-root : id ≡ root → S.Over ≡ next_of_next m root (End id)
  unfolding next_of_next
  after-root e = simp (eq-eqb id root e)

  pub after-sibling : {sibling : ℕ} → (id ≡ root → ⊥) → sibling ≡ link m id NEXT → (sibling ≡ 0 → ⊥) → S.Edge (Start sibling) ≡ next_of_next m root (End id)
  unfolding next_of_next next_traverse
  after-sibling r c z = simp (ne_eqb id root r, ne_eqb (link m id NEXT) 0 (λ e. z (c ∙ e))) (ap (λ (y : ℕ). S.Edge (Start y)) c)

  pub after-parent : {sibling parent : ℕ} → (id ≡ root → ⊥) → sibling ≡ link m id NEXT → sibling ≡ 0 → parent ≡ link m id PARENT → (parent ≡ 0 → ⊥)
      → S.Edge (End parent) ≡ next_of_next m root (End id)
  unfolding next_of_next next_traverse
  after-parent r c z p y =
      simp (ne_eqb id root r, eq-eqb (link m id NEXT) 0 (sym c ∙ z), ne_eqb (link m id PARENT) 0 (λ e. y (p ∙ e))) (ap (λ (w : ℕ). S.Edge (End w)) p)

  pub after-top : {sibling parent : ℕ} → (id ≡ root → ⊥) → sibling ≡ link m id NEXT → sibling ≡ 0 → parent ≡ link m id PARENT → parent ≡ 0
      → S.Over ≡ next_of_next m root (End id)
  unfolding next_of_next next_traverse
  after-top r c z p y = simp (ne_eqb id root r, eq-eqb (link m id NEXT) 0 (sym c ∙ z), eq-eqb (link m id PARENT) 0 (sym p ∙ y))

-- ---- one run after another

pub gone-then : {m : List ℕ} {used root budget : ℕ} {next₀ : Step} {list₀ : List ℕ} {count₀ : ℕ} {next : Step} {list : List ℕ} {count : ℕ} {next' : Step} {list' : List ℕ} {count' : ℕ}
    → Gone m used root budget next₀ list₀ count₀ next list count → Gone m used root budget next list count next' list' count' → Gone m used root budget next₀ list₀ count₀ next' list' count'
gone-then g k =
    let a = g.from in
    let b = k.from in
    record { from = omega arith; upto = k.upto; places = k.places ∙ g.places; rest = k.rest ∙ g.rest }

pub yield-over_any : (n : ℕ) (m : List ℕ) (used root : ℕ) (list : List ℕ) (i : ℕ) → yield_from n m used root S.Over list i ≡ (list, i, S.Over)
yield-over_any zero m used root list i = yield-out 0 m used root list i S.Over (omega arith)
yield-over_any (suc n) m used root list i = yield-over (suc n) m used root list i (omega arith)

pub yield_broken_any : (n : ℕ) (m : List ℕ) (used root : ℕ) (list : List ℕ) (i : ℕ) → yield_from n m used root S.Broken list i ≡ (list, i, S.Broken)
yield_broken_any zero m used root list i = yield-out 0 m used root list i S.Broken (omega arith)
yield_broken_any (suc n) m used root list i = yield_broken (suc n) m used root list i (omega arith)

-- Where no edge is next, nothing more is stored.
pub yield-still : (n : ℕ) (m : List ℕ) (used root : ℕ) (list : List ℕ) (i : ℕ) (next : Step) → ((e : Edge) → next ≡ S.Edge e → ⊥)
    → yield_from n m used root next list i ≡ (list, i, next)
yield-still n m used root list i (S.Edge e) h = absurd (h e refl)
yield-still n m used root list i S.Over h = yield-over_any n m used root list i
yield-still n m used root list i S.Broken h = yield_broken_any n m used root list i

module _ {m : List ℕ} {used root budget : ℕ} {next₀ : Step} {list₀ : List ℕ} {count₀ : ℕ} where
  -- A run that did not lose its edge wrote one.
  pub ran-more : {out : ℕ → Step} {next : Step} {list : List ℕ} {count : ℕ} → Ran m used root budget next₀ list₀ count₀ out next list count → (next ≡ S.Broken → ⊥) → count₀ < count
  ran-more {out} {next} {list} {count} r n = by r.moves
    where
      by : (count₀ < count) ⊎ (next ≡ S.Broken) → count₀ < count
      by (inl h) = h
      by (inr e) = absurd (n e)

  -- Down, and up from there.
  pub ran_then : {next : Step} {id : ℕ} {list : List ℕ} {count : ℕ} {next' : Step} {list' : List ℕ} {count' : ℕ}
      → Ran m used root budget next₀ list₀ count₀ starting next list count → next ≡ ending id → Ran m used root budget (ending id) list count ending next' list' count'
      → Ran m used root budget next₀ list₀ count₀ ending next' list' count'
  ran_then {next} {id} {list} {count} d e u =
      let h = ran-more d (λ (q : next ≡ S.Broken). ending-lost id (sym e ∙ q)) in
      let k = u.gone.from in
      record {
        gone = gone-then (subst (λ (w : Step). Gone m used root budget next₀ list₀ count₀ w list count) e d.gone) u.gone;
        moves = inl (omega arith);
        full = u.full;
      }

  pub ran-stay : {next : Step} {list : List ℕ} {count : ℕ} → Ran m used root budget next₀ list₀ count₀ starting next list count → ((id : ℕ) → next ≡ ending id → budget ≤ count)
      → Ran m used root budget next₀ list₀ count₀ ending next list count
  ran-stay d h = record { gone = d.gone; moves = d.moves; full = h }

  -- Nothing is to come within the budget.
  pub gone-full : (next : Step) (list : List ℕ) (count : ℕ) → Gone m used root budget next₀ list₀ count₀ next list count → budget ≤ count
      → (list, count, next) ≡ yield_from (budget - count₀) m used root next₀ list₀ count₀
  gone-full next list count g h = sym (yield-out (budget - count) m used root list count next (omega arith)) ∙ g.rest

  pub ran_stops : (out : ℕ → Step) (next' : Step) (id : ℕ) (list : List ℕ) (count : ℕ) (next : Step) (list₁ : List ℕ) (count₁ : ℕ) → Gone m used root budget next₀ list₀ count₀ next list₁ count₁
      → Ran m used root budget next list₁ count₁ out next' list count → ((next' ≡ S.Over) ⊎ (next' ≡ S.Broken)) ⊎ (next' ≡ out id)
      → (list, count, next') ≡ yield_from (budget - count₀) m used root next₀ list₀ count₀
  ran_stops out next' id list count next list₁ count₁ g r (inl (inl e)) =
      sym (subst (λ (w : Step). yield_from (budget - count) m used root w list count ≡ (list, count, w)) (sym e) (yield-over_any (budget - count) m used root list count))
      ∙ r.gone.rest ∙ g.rest
  ran_stops out next' id list count next list₁ count₁ g r (inl (inr e)) =
      sym (subst (λ (w : Step). yield_from (budget - count) m used root w list count ≡ (list, count, w)) (sym e) (yield_broken_any (budget - count) m used root list count))
      ∙ r.gone.rest ∙ g.rest
  ran_stops out next' id list count next list₁ count₁ g r (inr e) = gone-full next' list count (gone-then g r.gone) (r.full id e)

  -- Up, to what is no start.
  pub ran_stops-up : (next' : Step) (list : List ℕ) (count : ℕ) {next : Step} {list₁ : List ℕ} {count₁ : ℕ} → Gone m used root budget next₀ list₀ count₀ next list₁ count₁
      → Ran m used root budget next list₁ count₁ ending next' list count → ((id : ℕ) → next' ≡ starting id → ⊥)
      → (list, count, next') ≡ yield_from (budget - count₀) m used root next₀ list₀ count₀
  ran_stops-up (S.Edge (Start id)) list count g r n = absurd (n id refl)
  ran_stops-up (S.Edge (End id)) list count g r n = ran_stops ending (ending id) id list count _ _ _ g r (inr refl)
  ran_stops-up S.Over list count g r n = ran_stops ending S.Over 0 list count _ _ _ g r (inl (inl refl))
  ran_stops-up S.Broken list count g r n = ran_stops ending S.Broken 0 list count _ _ _ g r (inl (inr refl))

-- Up, and then in rounds from there.
pub ran-goes : {m : List ℕ} {used root budget : ℕ} {next₀ : Step} {list₀ : List ℕ} {count₀ : ℕ} {out : ℕ → Step} {next : Step} {id : ℕ} {list : List ℕ} {count : ℕ} {whole : List ℕ × ℕ × Step}
    → Ran m used root budget next₀ list₀ count₀ out next list count → next ≡ starting id → whole ≡ yield_from (budget - count) m used root (starting id) list count
    → whole ≡ yield_from (budget - count₀) m used root next₀ list₀ count₀
ran-goes {m} {used} {root} {budget} {next₀} {list₀} {count₀} {out} {next} {id} {list} {count} r e w =
    w ∙ (subst (λ (y : Step). Gone m used root budget next₀ list₀ count₀ y list count) e r.gone).rest

-- From no edge on.
pub from_first : (budget : ℕ) (m : List ℕ) (used root : ℕ) (next : Step) (list : List ℕ) → yield_from (budget - 0) m used root next list 0 ≡ yield_from budget m used root next list 0
from_first budget m used root next list = let z : budget - 0 ≡ budget = omega arith in ap (λ (n : ℕ). yield_from n m used root next list 0) z
