-- A node of sound memory that stands alone goes where a target has it, once over the place: what the target's links then name are
-- other nodes, none or found, and the few writes of this crate are those of the node put there.
use Rattle.std.specs.Prelude.{◌≡◌, refl, ◌≢◌, List, ℕ, ◌*◌, ◌≤◌, length, Result}
use Rattle.std.proofs.Common.{sym, ap, ◌∙◌, inl, inr}
use Rattle.link.specs.Words.{width, PARENT, PREVIOUS, NEXT, FIRST, LAST, link}
use Rattle.link.specs.Siblings.{insert_with_neighbors}
use Rattle.link.specs.Found.{Found}
use Rattle.link.specs.declared.header.Header.{Header}
use Rattle.link.specs.declared.siblings_range.ConsistencyError.{ConsistencyError}
use Rattle.rules.specs.Links.{par, prv, nxt, fst, lst}
use Rattle.rules.specs.Sound.{Sound}
use Rattle.forest.specs.Found.{found_some}
use Rattle.forest.specs.Surgery.{place_words, NoneOr}
use Rattle.forest.specs.Transplant.{insert-alone, last-alone, first_alone}
use Rattle.moves.specs.Places.{spot}
use Rattle.moves.specs.Values.{put_new}
use Rattle.moves.specs.declared.place.Place.{Place}
use Rattle.moves.specs.declared.place.Place.TheVariants.{Append, Prepend, After, Before}
use Rattle.splice.specs.Splice.{Within, put_in}
use Rattle.splice.specs.Connects.{HasEnd, in_words}
use Rattle.splice.specs.Around.{inside, apart, link-live, last_too, first_too, first-parent, last-parent, parent-first, parent-last}

-- The node x and a target of which it is neither the parent nor itself.
pub record Lone (m : List ℕ) (h : Header) (t x : ℕ) : Type 0 where
  pub room : h.used * width ≤ length m
  pub sound : Sound m h
  pub target : Found m h.used t
  pub node : Found m h.used x
  pub no-parent : link m x PARENT ≡ 0
  pub no-previous : link m x PREVIOUS ≡ 0
  pub no-next : link m x NEXT ≡ 0
  pub other : t ≢ x
  pub not-child : link m t PARENT ≢ x

module _ (m : List ℕ) (h : Header) (t x : ℕ) (A : Lone m h t x) where
  abbrev live : ℕ → Type 0
  live = Found m h.used

  some : x ≢ 0
  some = found_some m h.used x A.node

  -- what would be linked back to the target is not the node, which has no such link
  not-linked : (y k : ℕ) → (y ≢ 0 → link m y k ≡ t) → link m x k ≡ 0 → y ≢ x
  not-linked y k f z e =
      found_some m h.used t A.target (sym (f (λ q. some (sym e ∙ q))) ∙ ap (λ (w : ℕ). link m w k) e ∙ z)

  pub record Landing (parent previous next : ℕ) : Type 0 where
    pub under : NoneOr live parent
    pub left : NoneOr live previous
    pub right : NoneOr live next
    pub under-other : parent ≢ x
    pub left_other : previous ≢ x
    pub right-other : next ≢ x
    pub has_first : HasEnd m parent previous FIRST
    pub has_last : HasEnd m parent next LAST

  pub landing : (place : Place) → Landing (spot place m t).parent (spot place m t).previous (spot place m t).next
  landing Append = record {
    under = inr A.target;
    left = link-live m h A.sound t A.target lst;
    right = inl refl;
    under-other = A.other;
    left_other = not-linked (link m t LAST) PARENT (last-parent m h A.sound t A.target) A.no-parent;
    right-other = λ z. some (sym z);
    has_first = λ n _. first_too m h A.sound t A.target n;
    has_last = λ n _. absurd (n refl);
  }
  landing Prepend = record {
    under = inr A.target;
    left = inl refl;
    right = link-live m h A.sound t A.target fst;
    under-other = A.other;
    left_other = λ z. some (sym z);
    right-other = not-linked (link m t FIRST) PARENT (first-parent m h A.sound t A.target) A.no-parent;
    has_first = λ n _. absurd (n refl);
    has_last = λ n _. last_too m h A.sound t A.target n;
  }
  landing After = record {
    under = link-live m h A.sound t A.target par;
    left = inr A.target;
    right = link-live m h A.sound t A.target nxt;
    under-other = A.not-child;
    left_other = A.other;
    right-other = not-linked (link m t NEXT) PREVIOUS (A.sound.links.after t A.target) A.no-previous;
    has_first = λ _. parent-first m h A.sound t A.target;
    has_last = λ _. parent-last m h A.sound t A.target;
  }
  landing Before = record {
    under = link-live m h A.sound t A.target par;
    left = link-live m h A.sound t A.target prv;
    right = inr A.target;
    under-other = A.not-child;
    left_other = not-linked (link m t PREVIOUS) NEXT (A.sound.links.before t A.target) A.no-next;
    right-other = A.other;
    has_first = λ _. parent-first m h A.sound t A.target;
    has_last = λ _. parent-last m h A.sound t A.target;
  }

  within : (y : ℕ) → NoneOr live y → y ≢ 0 → Within m y
  within y (inl z) n = absurd (n z)
  within y (inr f) n = inside m h.used A.room y f

  abbrev words : Place → List ℕ
  words place = place_words m x (spot place m t).parent (spot place m t).previous (spot place m t).next

  pub lands : (place : Place) → put_in m x (spot place m t).parent (spot place m t).previous (spot place m t).next ≡ words place
  lands place =
      let L = landing place in
      in_words m x (spot place m t).parent (spot place m t).previous (spot place m t).next some
      (within (spot place m t).parent L.under) L.has_first L.has_last
      (apart m h.used x (spot place m t).next A.node L.right-other L.right)

  pub inserts : (place : Place) (n : ℕ) → 2 ≤ n
      → (insert_with_neighbors n m x (spot place m t).parent (spot place m t).previous (spot place m t).next).0 ≡ words place
  inserts place n l =
      let L = landing place in
      ap (λ (p : List ℕ × Result Unit ConsistencyError). p.0)
      (insert-alone n m x (spot place m t).parent (spot place m t).previous (spot place m t).next l some
      L.left_other L.right-other L.under-other A.no-parent A.no-previous A.no-next)

  pub puts-new : (place : Place) (n : ℕ) → 2 ≤ n → (put_new place n m t x).0 ≡ words place
  puts-new Append n l = ap (λ (p : List ℕ × Result Unit ConsistencyError). p.0) (last-alone n m x t l some (λ e. A.other (sym e)) A.no-next)
  puts-new Prepend n l = ap (λ (p : List ℕ × Result Unit ConsistencyError). p.0) (first_alone n m x t l some (λ e. A.other (sym e)) A.no-next)
  puts-new After n l = inserts After n l
  puts-new Before n l = inserts Before n l
