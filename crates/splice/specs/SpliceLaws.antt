-- Where the code of `splice` and `spot` reads and writes, and what its calls come to, put together.
-- Assumed of the memory is only that the slots named lie within it.
use Rattle.std.specs.Prelude.{◌≡◌, refl, Bool, true, false, cond, ◌⊎◌, List, ◌-◌, ℕ, ◌+◌, ◌*◌, ◌<◌, ◌≤◌, eqb, length, set}
use Rattle.std.proofs.Common.{sym, ap, ◌∙◌, subst, ⊎_elim, arith}
use Rattle.std.proofs.lemmas.Bool.{eqb-false}
use Rattle.link.specs.Ids.{slot_of}
use Rattle.link.specs.Words.{width, PARENT, PREVIOUS, NEXT, FIRST, LAST, place, word, set_word, link, set_link}
use Rattle.link.specs.WordLaws.{link-some, set_link-some, length-set_link}
use Rattle.moves.specs.Places.{between, spot}
use Rattle.moves.specs.declared.place.Spot.{Spot}
use Rattle.moves.specs.declared.place.Place.{Place}
use Rattle.moves.specs.declared.place.Place.TheVariants.{Append, Prepend, After, Before}
use Rattle.splice.specs.Splice.{Within, NoneOrWithin, PlaceWithin, led, taken_out, tied_in, put_in, beside_word, is_under, is_behind}

-- Within, said of the memory's length: what holds of one length holds of the same.

abbrev pub Upto : ℕ → ℕ → Type 0
Upto n id = (0 < slot_of id) × (slot_of id * width ≤ n)

pub within-stays : (id : ℕ) {n n' : ℕ} → n' ≡ n → Upto n id → Upto n' id
within-stays id e w = (w.0, rw e w.1)

pub none-or-within-stays : (id : ℕ) {n n' : ℕ} → n' ≡ n → (id ≡ 0) ⊎ Upto n id → (id ≡ 0) ⊎ Upto n' id
none-or-within-stays id e w = rw e w

pub place-within-stays : (m m' : List ℕ) (to : Spot) → length m' ≡ length m → PlaceWithin m to → PlaceWithin m' to
place-within-stays m m' to e w = (none-or-within-stays to.parent e w.0, none-or-within-stays to.previous e w.1, none-or-within-stays to.next e w.2)

-- The word that leads to a place.

pub length-led : (m : List ℕ) (spare parent neighbour along end v : ℕ) → length (led m spare parent neighbour along end v) ≡ length m
unfolding led
length-led m spare parent neighbour along end v = by (eqb neighbour 0) (eqb parent 0)
  where
    by : (a b : Bool) → length (cond a (cond b (set_link m spare along v) (set_link m parent end v)) (set_link m neighbour along v)) ≡ length m
    by true true = length-set_link m spare along v
    by true false = length-set_link m parent end v
    by false b = length-set_link m neighbour along v

-- A write at a place counted from a slot before the first.
pub record Written (m : List ℕ) (at v : ℕ) (after : List ℕ) : Type 0 where
  pub from : width ≤ at
  pub inside : at - width < length m
  pub is : set m (at - width) v ≡ after

written : (m : List ℕ) (id k v : ℕ) → Within m id → k < width → Written m (slot_of id * width + k) v (set_link m id k v)
unfolding set_word
written m id k v w q =
    let a = w.0 in let b = w.1 in
    let e : slot_of id * width + k - width ≡ place (slot_of id) k = omega arith in
    record {
      from = omega arith;
      inside = omega arith;
      is = ap (λ (i : ℕ). set m i v) e ∙ sym (set_link-some m id k v w.0);
    }

-- What is none or within the memory, and not none, is within.
there : (m : List ℕ) (id : ℕ) → eqb id 0 ≡ false → NoneOrWithin m id → Within m id
there m id e w = ⊎_elim (λ z. absurd (eqb-false id 0 e z)) (λ z. z) w

pub led_at : (m : List ℕ) (spare parent neighbour along end v : ℕ) {own above beside other at : ℕ}
    → Within m spare → NoneOrWithin m parent → NoneOrWithin m neighbour → along < width → end < width
    → own ≡ slot_of spare * width + along → above ≡ slot_of parent * width + end → beside ≡ slot_of neighbour * width + along
    → other ≡ cond (eqb parent 0) own above → at ≡ cond (eqb neighbour 0) other beside
    → Written m at v (led m spare parent neighbour along end v)
unfolding led
led_at m spare parent neighbour along end v {at = at} s p n a b o u d t e =
    let is : at ≡ cond (eqb neighbour 0) (cond (eqb parent 0) (slot_of spare * width + along) (slot_of parent * width + end)) (slot_of neighbour * width + along) = cc in
    subst (λ (i : ℕ). Written m i v (led m spare parent neighbour along end v)) (sym is) (by (eqb neighbour 0) (eqb parent 0) refl refl)
  where
    by : (x y : Bool) → eqb neighbour 0 ≡ x → eqb parent 0 ≡ y
        → Written m (cond x (cond y (slot_of spare * width + along) (slot_of parent * width + end)) (slot_of neighbour * width + along)) v
        (cond x (cond y (set_link m spare along v) (set_link m parent end v)) (set_link m neighbour along v))
    by true true f g = written m spare along v s a
    by true false f g = written m parent end v (there m parent g p) b
    by false y f g = written m neighbour along v (there m neighbour f n) a

-- A link read by its slot.
pub link-read : (m : List ℕ) (id k : ℕ) {s v : ℕ} → 0 < slot_of id → s ≡ slot_of id → v ≡ word m s k → v ≡ link m id k
link-read m id k h e f = let l = link-some m id k h in cc

-- So what a link was asked to be, what was read is.
pub read_within : (m : List ℕ) (id k : ℕ) {s v : ℕ} → 0 < slot_of id → s ≡ slot_of id → v ≡ word m s k → NoneOrWithin m (link m id k) → NoneOrWithin m v
read_within m id k {v = v} h e f w = subst (λ (x : ℕ). NoneOrWithin m x) (sym (link-read m id k h e f)) w

-- A slot as the words of a slot are asked for.
pub slot-within : (id k : ℕ) {s n n' : ℕ} → Upto n id → k < width → s ≡ slot_of id → n' ≡ n → (0 < s) × (s * width ≤ n') × (k < width)
slot-within id k w q e l = let a = w.0 in let b = w.1 in (omega arith, omega arith, q)

pub taken-out_by : (m : List ℕ) (id : ℕ) {s parent previous next : ℕ} {m₁ m₂ m₃ m₄ m₅ : List ℕ} → 0 < slot_of id → s ≡ slot_of id
    → parent ≡ word m s PARENT → previous ≡ word m s PREVIOUS → next ≡ word m s NEXT
    → m₁ ≡ led m id parent previous NEXT FIRST next → m₂ ≡ led m₁ id parent next PREVIOUS LAST previous
    → m₃ ≡ set_word m₂ s PARENT 0 → m₄ ≡ set_word m₃ s PREVIOUS 0 → m₅ ≡ set_word m₄ s NEXT 0 → m₅ ≡ taken_out m id
unfolding taken_out
taken-out_by m id {m₂ = m₂} {m₃ = m₃} {m₄ = m₄} h e a b c f g i j k =
    let p = link-read m id PARENT h e a in
    let q = link-read m id PREVIOUS h e b in
    let r = link-read m id NEXT h e c in
    let x = set_link-some m₂ id PARENT 0 h in
    let y = set_link-some m₃ id PREVIOUS 0 h in
    let z = set_link-some m₄ id NEXT 0 h in
    cc

pub tied_in_by : (m : List ℕ) (first last parent previous next : ℕ) {s t : ℕ} {m₁ m₂ m₃ m₄ : List ℕ} → 0 < slot_of first → 0 < slot_of last
    → m₁ ≡ led m last parent previous NEXT FIRST first → m₂ ≡ led m₁ first parent next PREVIOUS LAST last
    → s ≡ slot_of first → m₃ ≡ set_word m₂ s PREVIOUS previous → t ≡ slot_of last → m₄ ≡ set_word m₃ t NEXT next
    → m₄ ≡ tied_in m first last parent previous next
unfolding tied_in
tied_in_by m first last parent previous next {m₂ = m₂} {m₃ = m₃} h i a b e c f d =
    let x = set_link-some m₂ first PREVIOUS previous h in
    let y = set_link-some m₃ last NEXT next i in
    cc

pub put_in_by : (m : List ℕ) (id parent previous next : ℕ) {s : ℕ} {m₁ m₂ : List ℕ} → 0 < slot_of id
    → s ≡ slot_of id → m₁ ≡ set_word m s PARENT parent → m₂ ≡ tied_in m₁ id id parent previous next → m₂ ≡ put_in m id parent previous next
unfolding put_in
put_in_by m id parent previous next h e a b = let x = set_link-some m id PARENT parent h in cc

-- A place by its three answers.

pub beside-below : (place : Place) → beside_word place < width
beside-below Append = omega arith
beside-below Prepend = omega arith
beside-below After = omega arith
beside-below Before = omega arith

pub spot_is : (place : Place) (m : List ℕ) (target : ℕ)
    → between (cond (is_under place) target (link m target PARENT))
    (cond (is_behind place) (link m target (beside_word place)) (cond (is_under place) 0 target))
    (cond (is_behind place) (cond (is_under place) 0 target) (link m target (beside_word place)))
    ≡ spot place m target
spot_is Append m target = refl
spot_is Prepend m target = refl
spot_is After m target = refl
spot_is Before m target = refl

pub spot_by : (place : Place) (m : List ℕ) (target : ℕ) {s above which beside other parent previous next : ℕ} {under behind : Bool}
    → 0 < slot_of target → s ≡ slot_of target → above ≡ link m target PARENT → which ≡ beside_word place → beside ≡ word m s which
    → under ≡ is_under place → behind ≡ is_behind place → other ≡ cond under 0 target → parent ≡ cond under target above
    → previous ≡ cond behind beside other → next ≡ cond behind other beside → between parent previous next ≡ spot place m target
spot_by place m target h e a w b u d o p q n =
    let side = link-read m target (beside_word place) h e (b ∙ ap (word m _) w) in
    let is = spot_is place m target in
    cc
