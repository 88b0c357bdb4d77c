-- What the calls of a change on ready memory ask for, and what they come to, from the laws of ready memory.
-- Each law takes what the calls before it handed back, as the code has it.
use Rattle.std.specs.Prelude.{◌≡◌, refl, true, List, ℕ, ◌+◌, ◌*◌, ◌<◌, ◌≤◌, length}
use Rattle.std.proofs.Common.{sym, ap, ◌∙◌, subst}
use Rattle.link.specs.Ids.{slot_of}
use Rattle.link.specs.Words.{width, PARENT, PREVIOUS, NEXT, FIRST, LAST, capacity_of, word, link}
use Rattle.link.specs.Found.{Found, found_b}
use Rattle.link.specs.declared.header.Header.{Header}
use Rattle.rules.specs.Answers.{DONE}
use Rattle.rules.specs.declared.answer.Answer.{Answer}
use Rattle.rules.specs.Links.{par, prv, nxt}
use Rattle.rules.specs.Sound.{Ready}
use Rattle.arena.specs.Create.{new_node}
use Rattle.moves.specs.Moves.{move_no, move_words}
use Rattle.moves.specs.Places.{between, spot}
use Rattle.moves.specs.Values.{put_new}
use Rattle.moves.specs.declared.place.Place.{Place}
use Rattle.moves.specs.declared.place.Spot.{Spot}
use Rattle.removal.specs.Remove.{steps_for, hoisted}
use Rattle.removal.specs.Freeable.{Freeable}
use Rattle.removal.specs.FreeableLaws.{last-used}
use Rattle.removal.specs.RemoveLaws.{found_freeable}
use Rattle.splice.specs.Splice.{Within, NoneOrWithin, PlaceWithin, taken_out, put_in}
use Rattle.splice.specs.Hoist.{Ends, hoisted_in}
use Rattle.splice.specs.SpliceLaws.{link-read, slot-within}
use Rattle.splice.specs.ReadyLaws.{
  SpotWithin,
  found_within,
  links-within,
  target_found,
  moved-target,
  moved-above,
  moved-node,
  moved-spot,
  moved-words,
  new-target,
  new-above,
  new_node_lem,
  new-spot,
  new-words,
  hoist-node,
  hoist-ends,
  hoist-around,
  hoisted_in_lem,
}

-- A node and the place that it is put to are within the memory.
abbrev Puttable : List ℕ → ℕ → Spot → Type 0
Puttable m x to = Within m x × PlaceWithin m to

puttable : (m : List ℕ) (place : Place) (t x : ℕ) {to : Spot} → to ≡ spot place m t → Within m x → SpotWithin m place t → Puttable m x to
puttable m place t x e w s = subst (λ (to : Spot). Puttable m x to) (sym e) (w, (s.parent, s.previous, s.next))

-- The five links of a node, read by its slot.
pub record LinksRead (m : List ℕ) (x parent previous next first last : ℕ) : Type 0 where
  pub up : parent ≡ link m x PARENT
  pub left : previous ≡ link m x PREVIOUS
  pub right : next ≡ link m x NEXT
  pub start : first ≡ link m x FIRST
  pub end : last ≡ link m x LAST

pub links-read : (m : List ℕ) (x : ℕ) {s parent previous next first last : ℕ} → 0 < slot_of x → s ≡ slot_of x → parent ≡ word m s PARENT
    → previous ≡ word m s PREVIOUS → next ≡ word m s NEXT → first ≡ word m s FIRST → last ≡ word m s LAST
    → LinksRead m x parent previous next first last
links-read m x h e a b c d g = record {
  up = link-read m x PARENT h e a;
  left = link-read m x PREVIOUS h e b;
  right = link-read m x NEXT h e c;
  start = link-read m x FIRST h e d;
  end = link-read m x LAST h e g;
}

module _ (m : List ℕ) (h : Header) (fits : h.used ≤ capacity_of (length m)) (R : Ready m h) where
  -- A word of a found node, by its slot.
  pub word-asks : (x k : ℕ) {s : ℕ} → Found m h.used x → k < width → s ≡ slot_of x → (0 < s) × (s * width ≤ length m) × (k < width)
  word-asks x k f q e = slot-within x k (found_within m h fits R x f) q e refl

  -- A node to take out, and its links.
  pub out-asks : (x : ℕ) → Found m h.used x
      → Within m x × NoneOrWithin m (link m x PARENT) × NoneOrWithin m (link m x PREVIOUS) × NoneOrWithin m (link m x NEXT)
  out-asks x f = (found_within m h fits R x f, links-within m h fits R x f par, links-within m h fits R x f prv, links-within m h fits R x f nxt)

  pub ready_freeable : (x : ℕ) → found_b m h.used x ≡ true → Freeable m h x
  ready_freeable x e = found_freeable m h x e fits (last-used m h R)

  module _ (t x : ℕ) (done : move_no m h t x ≡ DONE) (place : Place) {m₁ : List ℕ} (out : m₁ ≡ taken_out m x) where
    pub move-spot-asks : {s above : ℕ} → s ≡ slot_of t → above ≡ word m s PARENT → Within m₁ t × (above ≡ link m₁ t PARENT)
    move-spot-asks {above = above} e a =
        subst (λ (w : List ℕ). Within w t × (above ≡ link w t PARENT)) (sym out) (
          moved-target m h fits R t x done place,
          link-read m t PARENT (target_found m h fits R t x done place).from e a ∙ sym (moved-above m h fits R t x done place),
        )

    module _ {to : Spot} (e : to ≡ spot place m₁ t) where
      pub move-put-asks : Within m₁ x × PlaceWithin m₁ to
      move-put-asks =
          puttable m₁ place t x e (subst (λ (w : List ℕ). Within w x) (sym out) (moved-node m h fits R t x done place))
          (subst (λ (w : List ℕ). SpotWithin w place t) (sym out) (moved-spot m h fits R t x done place))

      pub move_words_by : {m₂ : List ℕ} → m₂ ≡ put_in m₁ x to.parent to.previous to.next → m₂ ≡ move_words place (h.used + 1) m t x
      move_words_by g =
          g ∙ ap (λ (s : Spot). put_in m₁ x s.parent s.previous s.next) e
          ∙ ap (λ (w : List ℕ). put_in w x (spot place w t).parent (spot place w t).previous (spot place w t).next) out
          ∙ moved-words m h fits R t x done place

  module _ (t number : ℕ) (f : Found m h.used t) (place : Place) {m₁ : List ℕ} {made : Answer} (new : (m₁, made) ≡ new_node m h number)
      (d : made.number ≡ DONE) where
    done : (new_node m h number).1.number ≡ DONE
    done = sym (ap (λ (p : List ℕ × Answer). p.1.number) new) ∙ d

    pub value-spot-asks : {s above : ℕ} → s ≡ slot_of t → above ≡ word m s PARENT → Within m₁ t × (above ≡ link m₁ t PARENT)
    value-spot-asks {above = above} e a =
        subst (λ (p : List ℕ × Answer). Within p.0 t × (above ≡ link p.0 t PARENT)) (sym new) (
          new-target m h fits R t number f done place,
          link-read m t PARENT f.from e a ∙ sym (new-above m h fits R t number f done place),
        )

    module _ {to : Spot} (e : to ≡ spot place m₁ t) where
      pub value-put-asks : Within m₁ made.result × PlaceWithin m₁ to
      value-put-asks =
          puttable m₁ place t made.result e
          (subst (λ (p : List ℕ × Answer). Within p.0 p.1.result) (sym new) (new_node_lem m h fits R t number f done place))
          (subst (λ (p : List ℕ × Answer). SpotWithin p.0 place t) (sym new) (new-spot m h fits R t number f done place))

      pub value-put_by : {m₂ : List ℕ} → m₂ ≡ put_in m₁ made.result to.parent to.previous to.next
          → (m₂, (put_new place (h.used + 1) m₁ t made.result).1) ≡ put_new place (h.used + 1) m₁ t made.result
      value-put_by g =
          ap (λ (w : List ℕ). (w, (put_new place (h.used + 1) m₁ t made.result).1))
          (g ∙ ap (λ (s : Spot). put_in m₁ made.result s.parent s.previous s.next) e
          ∙ subst (λ (p : List ℕ × Answer). put_in p.0 p.1.result (spot place p.0 t).parent (spot place p.0 t).previous (spot place p.0 t).next
          ≡ (put_new place (h.used + 1) p.0 t p.1.result).0) (sym new) (new-words m h fits R t number f done place))

  -- The children of a node that is taken out, by the links read before.
  module _ (x : ℕ) (f : Found m h.used x) {m₁ : List ℕ} {parent previous next first last : ℕ} (out : m₁ ≡ taken_out m x)
      (L : LinksRead m x parent previous next first last) where
    pub hoist-asks : Within m₁ x × Ends m₁ first last × PlaceWithin m₁ (between parent previous next)
    hoist-asks =
        rw (out, L.up, L.left, L.right, L.start, L.end) (hoist-node m h fits R x f, hoist-ends m h fits R x f, (hoist-around m h fits R x f par, hoist-around m h fits R x f prv, hoist-around m h fits R x f nxt))

    pub hoisted_by : {m₂ : List ℕ} → m₂ ≡ hoisted_in (steps_for h.used) m₁ x first last parent previous next
        → m₂ ≡ hoisted (steps_for h.used) m₁ first last parent previous next
    hoisted_by g =
        let is = hoisted_in_lem m h fits R x f in
        let a = L.up in let b = L.left in let c = L.right in let d = L.start in let e = L.end in
        cc
