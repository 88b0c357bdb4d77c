-- On ready memory the few writes of this crate leave the very words that the definitions of `moves` and `removal` do.
use Rattle.std.specs.Prelude.{◌≡◌, ◌≢◌, ℕ, ◌+◌, ◌*◌, ◌≤◌, length}
use Rattle.std.proofs.Math.Path.{sym, ap}
use Rattle.std.proofs.Common.{◌∙◌, subst, inl, inr, arith}
use Rattle.std.proofs.Math.Logic.{⊎_map}
use mathlib.Core.List.{List, [], ◌∷◌}
use Rattle.link.specs.Ids.{slot_of}
use Rattle.link.specs.Words.{width, PARENT, PREVIOUS, NEXT, FIRST, LAST, capacity_of, link}
use Rattle.link.specs.WordLaws.{link-some}
use Rattle.link.specs.Siblings.{detach_range}
use Rattle.link.specs.Found.{Found}
use Rattle.link.specs.declared.header.Header.{Header}
use Rattle.rules.specs.Answers.{DONE}
use Rattle.rules.specs.Links.{Link, par, prv, nxt, fst, lst, word_of, view}
use Rattle.rules.specs.Sound.{Sound, Ready}
use Rattle.rules.specs.Forest.{Segment}
use Rattle.rules.specs.Tree.{Above, self}
use Rattle.forest.specs.Found.{found_some}
use Rattle.forest.specs.Surgery.{detach_words, NoneOr}
use Rattle.sound.specs.GuardLaws.{capacity-fits}
use Rattle.arena.specs.Create.{new_node}
use Rattle.keeps.specs.Made.{Created}
use Rattle.keeps.specs.New.{new-fits, new-ready, new-created}
use Rattle.moves.specs.Detach.{detach}
use Rattle.moves.specs.Moves.{move_no, move_words}
use Rattle.moves.specs.Places.{spot}
use Rattle.moves.specs.Values.{put_new}
use Rattle.moves.specs.declared.place.Place.{Place}
use Rattle.keeps_moves.specs.Move.{Movable, move-done_exact}
use Rattle.removal.specs.Remove as model
use Rattle.removal.specs.Remove.{steps_for}
use Rattle.removed.specs.Alone.{detached-words, alone-room, alone-ready}
use Rattle.splice.specs.Splice.{Within, NoneOrWithin, taken_out, put_in}
use Rattle.splice.specs.Hoist.{Ends, childless, hoisted_in}
use Rattle.splice.specs.Connects.{out-words}
use Rattle.splice.specs.Around.{
  inside,
  none_inside,
  apart,
  link-live,
  last_too,
  first-parent,
  previous-other,
  next-other,
  parent-other,
  parent-first,
  parent-last,
}
use Rattle.splice.specs.Landing.{Lone, landing, lands, inserts, puts-new}
use Rattle.splice.specs.Taken.{taken-found, taken-alone, taken-parent, taken-first, taken-last, taken-kids}
use Rattle.splice.specs.HoistWords.{range-out, hoist-words}

-- A place's neighbours and parent are none or within the memory.
pub record SpotWithin (m : List ℕ) (place : Place) (t : ℕ) : Type 0 where
  pub parent : NoneOrWithin m (spot place m t).parent
  pub previous : NoneOrWithin m (spot place m t).previous
  pub next : NoneOrWithin m (spot place m t).next

-- As they are where a node that stands alone is to go there.
spot-within : (m : List ℕ) (h : Header) (t x : ℕ) → Lone m h t x → (place : Place) → SpotWithin m place t
spot-within m h t x A place =
    let L = landing m h t x A place in
    record {
      parent = none_inside m h.used A.room (spot place m t).parent L.under;
      previous = none_inside m h.used A.room (spot place m t).previous L.left;
      next = none_inside m h.used A.room (spot place m t).next L.right;
    }

module _ (m : List ℕ) (h : Header) (fits : h.used ≤ capacity_of (length m)) (R : Ready m h) where
  room : h.used * width ≤ length m
  room = (capacity-fits (length m) h.used fits).1

  pub found_within : (x : ℕ) → Found m h.used x → Within m x
  found_within = inside m h.used room

  pub links-within : (x : ℕ) → Found m h.used x → (k : Link) → NoneOrWithin m (link m x (word_of k))
  links-within x f k = none_inside m h.used room (link m x (word_of k)) (link-live m h R.sound x f k)

  -- A node taken out.
  pub taken_out_lem : (x : ℕ) → Found m h.used x → taken_out m x ≡ detach m x
  taken_out_lem x f =
      let S = R.sound in
      out-words m x (λ _. parent-first m h S x f) (λ _. parent-last m h S x f)
      (apart m h.used x (link m x PREVIOUS) f (previous-other m h S x f) (link-live m h S x f prv))
      (apart m h.used x (link m x NEXT) f (next-other m h S x f) (link-live m h S x f nxt))

  taken-words : (x : ℕ) → Found m h.used x → taken_out m x ≡ detach_words m x
  unfolding detach detach_words
  taken-words x f = taken_out_lem x f

  pub taken-out-steps : (x : ℕ) → Found m h.used x → taken_out m x ≡ model.detached (steps_for h.used) m x
  taken-out-steps x f = taken-words x f ∙ sym (detached-words m h room R x f)

  -- A node moved: out, then in where the target's links say then.
  module _ (t x : ℕ) (done : move_no m h t x ≡ DONE) (place : Place) where
    movable : Movable m h R.sound t x
    movable = (move-done_exact m h R.sound t x).0 done

    pub moved-found : Found m h.used x
    moved-found = movable.node

    pub target_found : Found m h.used t
    target_found = movable.target

    out : taken_out m x ≡ detach_words m x
    out = taken-words x moved-found

    alone : Segment (view (detach_words m x) par) (view (detach_words m x) prv) (view (detach_words m x) nxt) 0 0 (x ∷ []) 0
    alone = taken-alone m h room R x moved-found

    lone : Lone (detach_words m x) h t x
    lone = record {
      room = alone-room m h room R x moved-found;
      sound = (alone-ready m h room R x moved-found).sound;
      target = taken-found m h room R x moved-found t target_found;
      node = taken-found m h room R x moved-found x moved-found;
      no-parent = alone.0;
      no-previous = alone.1;
      no-next = alone.2;
      other = movable.other;
      not-child = λ e. movable.below (subst (Above (view m par) x)
          (sym e ∙ taken-parent m h room R x moved-found t target_found movable.other) (self (found_some m h.used x moved-found)));
    }

    pub moved-target : Within (taken_out m x) t
    moved-target = subst (λ (w : List ℕ). Within w t) (sym out) (inside (detach_words m x) h.used lone.room t lone.target)

    -- the target's parent is the same before and after
    pub moved-above : link (taken_out m x) t PARENT ≡ link m t PARENT
    moved-above = ap (λ (w : List ℕ). link w t PARENT) out ∙ taken-parent m h room R x moved-found t target_found movable.other

    pub moved-node : Within (taken_out m x) x
    moved-node = subst (λ (w : List ℕ). Within w x) (sym out) (inside (detach_words m x) h.used lone.room x lone.node)

    pub moved-spot : SpotWithin (taken_out m x) place t
    moved-spot = subst (λ (w : List ℕ). SpotWithin w place t) (sym out) (spot-within (detach_words m x) h t x lone place)

    pub moved-words : put_in (taken_out m x) x (spot place (taken_out m x) t).parent (spot place (taken_out m x) t).previous (spot place (taken_out m x) t).next
        ≡ move_words place (h.used + 1) m t x
    unfolding move_words detach detach_words
    moved-words =
        let a = target_found.from in let b = target_found.upto in
        ap (λ (w : List ℕ). put_in w x (spot place w t).parent (spot place w t).previous (spot place w t).next) out
        ∙ lands (detach_words m x) h t x lone place
        ∙ sym (inserts (detach_words m x) h t x lone place (h.used + 1) (omega arith))

  -- A new node put where a target's links say.
  module _ (t number : ℕ) (ft : Found m h.used t) (done : (new_node m h number).1.number ≡ DONE) (place : Place) where
    abbrev made : List ℕ
    made = (new_node m h number).0

    abbrev x : ℕ
    x = (new_node m h number).1.result

    abbrev after : Header
    after = (new_node m h number).1.header

    created : Created m h.used made after.used x number
    created = new-created m h number fits R done

    new-sound : Sound made after
    new-sound = (new-ready m h number fits R).sound

    -- the new node has no children
    new-lone : Lone made after t x
    new-lone = record {
      room = (capacity-fits (length made) after.used (new-fits m h number fits)).1;
      sound = new-sound;
      target = created.kept t ft;
      node = created.found;
      no-parent = created.alone par;
      no-previous = created.alone prv;
      no-next = created.alone nxt;
      other = λ e. created.new (subst (Found m h.used) e ft);
      not-child = λ e. parent-first made after new-sound t (created.kept t ft)
          (λ z. found_some made after.used x created.found (sym e ∙ z)) (ap (λ (y : ℕ). link made y FIRST) e ∙ created.alone fst);
    }

    pub new-target : Within made t
    new-target = inside made after.used new-lone.room t new-lone.target

    -- the target's parent is the same before and after
    pub new-above : link made t PARENT ≡ link m t PARENT
    new-above = link-some made t PARENT ft.from ∙ created.same t PARENT ft (omega arith) ∙ sym (link-some m t PARENT ft.from)

    pub new_node_lem : Within made x
    new_node_lem = inside made after.used new-lone.room x new-lone.node

    pub new-spot : SpotWithin made place t
    new-spot = spot-within made after t x new-lone place

    pub new-words : put_in made x (spot place made t).parent (spot place made t).previous (spot place made t).next ≡ (put_new place (h.used + 1) made t x).0
    new-words =
        let a = ft.from in let b = ft.upto in
        lands made after t x new-lone place ∙ sym (puts-new made after t x new-lone place (h.used + 1) (omega arith))

  -- The children of a node that is taken out, put to where it stood.
  module _ (x : ℕ) (f : Found m h.used x) where
    hoist-within : (y : ℕ) → Found m h.used y → Within (taken_out m x) y
    hoist-within y l =
        subst (λ (w : List ℕ). Within w y) (sym (taken-words x f))
        (inside (detach_words m x) h.used (alone-room m h room R x f) y (taken-found m h room R x f y l))

    pub hoist-node : Within (taken_out m x) x
    hoist-node = hoist-within x f

    pub hoist-ends : Ends (taken_out m x) (link m x FIRST) (link m x LAST)
    hoist-ends = go (link-live m h R.sound x f fst)
      where
        go : NoneOr (Found m h.used) (link m x FIRST) → Ends (taken_out m x) (link m x FIRST) (link m x LAST)
        go (inl z) = inl z
        go (inr l) =
            let last = R.sound.links.found x f lst (last_too m h R.sound x f (found_some m h.used (link m x FIRST) l)) in
            inr (hoist-within (link m x FIRST) l, hoist-within (link m x LAST) last)

    pub hoist-around : (k : Link) → NoneOrWithin (taken_out m x) (link m x (word_of k))
    hoist-around k = ⊎_map (λ z. z) (hoist-within (link m x (word_of k))) (link-live m h R.sound x f k)

    -- a child of the node is neither the node nor its next sibling
    module _ (some : link m x FIRST ≢ 0) where
      child : Found m h.used (link m x FIRST)
      child = R.sound.links.found x f fst some

      child-other : link m x FIRST ≢ x
      child-other e = parent-other m h R.sound x f (ap (λ (y : ℕ). link m y PARENT) (sym e) ∙ first-parent m h R.sound x f some)

      child-parent : link (detach_words m x) (link m x FIRST) PARENT ≡ x
      child-parent = taken-parent m h room R x f (link m x FIRST) child child-other ∙ first-parent m h R.sound x f some

      child-not-next : link m x NEXT ≢ 0 → link m x NEXT ≢ link m x FIRST
      child-not-next n e =
          parent-other m h R.sound x f
          (sym (R.sound.links.share x f n) ∙ ap (λ (y : ℕ). link m y PARENT) e ∙ first-parent m h R.sound x f some)

    -- the children leave the node, which is in no one's way by then
    leave : link m x FIRST ≢ 0 → detach_range (detach_words m x) (link m x FIRST) (link m x LAST) ≡ childless (detach_words m x) x
    leave some =
        let k = taken-kids m h room R x f some in
        range-out (detach_words m x) x (link m x FIRST) (link m x LAST) (child-parent some) k.0 k.1

    pub hoisted_in_lem : hoisted_in (steps_for h.used) (taken_out m x) x (link m x FIRST) (link m x LAST) (link m x PARENT) (link m x PREVIOUS) (link m x NEXT)
        ≡ model.hoisted (steps_for h.used) (taken_out m x) (link m x FIRST) (link m x LAST) (link m x PARENT) (link m x PREVIOUS) (link m x NEXT)
    hoisted_in_lem =
        subst (λ (w : List ℕ). hoisted_in (steps_for h.used) w x (link m x FIRST) (link m x LAST) (link m x PARENT) (link m x PREVIOUS) (link m x NEXT)
        ≡ model.hoisted (steps_for h.used) w (link m x FIRST) (link m x LAST) (link m x PARENT) (link m x PREVIOUS) (link m x NEXT)) (sym (taken-words x f))
        (hoist-words (steps_for h.used) (detach_words m x) x (link m x FIRST) (link m x LAST) (link m x PARENT) (link m x PREVIOUS) (link m x NEXT) leave
        (λ n. inside (detach_words m x) h.used (alone-room m h room R x f) (link m x PARENT)
        (taken-found m h room R x f (link m x PARENT) (R.sound.links.found x f par n)))
        (taken-first m h room R x f) (taken-last m h room R x f) (last_too m h R.sound x f)
        (λ some n e. apart m h.used x (link m x PARENT) f (parent-other m h R.sound x f) (link-live m h R.sound x f par) n
        (e ∙ ap slot_of (child-parent some)))
        (λ some n. apart m h.used (link m x FIRST) (link m x NEXT) (child some) (child-not-next some n) (link-live m h R.sound x f nxt) n))
