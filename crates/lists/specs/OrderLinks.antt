-- The step of an order in two kinds: down in preorder, or by a link and, where that is none, by another.
-- From the definitions, order by order.
use Rattle.std.specs.Prelude.{◌≡◌, refl, Bool, true, false, cond, List, [], ◌∷◌, ℕ, zero, suc, eqb}
use Rattle.std.proofs.Common.{sym, ap, ◌∙◌, arith}
use Rattle.link.specs.Words.{PARENT, PREVIOUS, NEXT, FIRST, link}
use Rattle.lists.specs.Orders.{along, kept, predecessor, next_descendant, first_of, step_of, keep_b, ordered}
use Rattle.lists.specs.OrderLaws.{list_from}
use Rattle.lists.specs.declared.order.Order.{Order}
use Rattle.lists.specs.declared.order.Order.TheVariants.{Ancestors, Predecessors, PrecedingSiblings, FollowingSiblings, Children, Descendants, Leaves}

-- Whether an order goes down from the node.
abbrev pub down_b : Order → Bool
down_b Ancestors = false
down_b Predecessors = false
down_b PrecedingSiblings = false
down_b FollowingSiblings = false
down_b Children = false
down_b Descendants = true
down_b Leaves = true

-- The link that an order goes by, where it does not go down.
abbrev pub near_link : Order → ℕ
near_link Ancestors = PARENT
near_link Predecessors = PREVIOUS
near_link PrecedingSiblings = PREVIOUS
near_link FollowingSiblings = NEXT
near_link Children = NEXT
near_link Descendants = FIRST
near_link Leaves = FIRST

-- The link it goes by where that one is none.
abbrev pub far_link : Order → ℕ
far_link Ancestors = PARENT
far_link Predecessors = PARENT
far_link PrecedingSiblings = PREVIOUS
far_link FollowingSiblings = NEXT
far_link Children = NEXT
far_link Descendants = FIRST
far_link Leaves = FIRST

-- By one link, else by another.
unfoldable pub link_else : List ℕ → ℕ → ℕ → ℕ → ℕ
link_else m x near far = cond (eqb (link m x near) 0) (link m x far) (link m x near)

no : false ≡ true → ⊥
no e = cc

either : (b : Bool) (n : ℕ) → n ≡ cond b n n
either true n = refl
either false n = refl

by_kind : (m : List ℕ) (used : ℕ) (order : Order) (root x : ℕ)
    → step_of m used order root x ≡ cond (down_b order) (next_descendant m used root x) (link_else m x (near_link order) (far_link order))
unfolding step_of link_else predecessor
by_kind m used Ancestors root x = either (eqb (link m x PARENT) 0) (link m x PARENT)
by_kind m used Predecessors root x = refl
by_kind m used PrecedingSiblings root x = either (eqb (link m x PREVIOUS) 0) (link m x PREVIOUS)
by_kind m used FollowingSiblings root x = either (eqb (link m x NEXT) 0) (link m x NEXT)
by_kind m used Children root x = either (eqb (link m x NEXT) 0) (link m x NEXT)
by_kind m used Descendants root x = refl
by_kind m used Leaves root x = refl

-- The step down is that of an order that goes down.
pub step_down : (m : List ℕ) (used : ℕ) (order : Order) (root x : ℕ) → down_b order ≡ true → {next : ℕ} → next ≡ next_descendant m used root x
    → next ≡ step_of m used order root x
step_down m used order root x d e = e ∙ sym (simp d at (by_kind m used order root x))

-- An order that goes by links lists every node it comes to.
links-keep : (m : List ℕ) (order : Order) (x : ℕ) → down_b order ≡ false → keep_b m order x ≡ true
unfolding keep_b
links-keep m Ancestors x d = refl
links-keep m Predecessors x d = refl
links-keep m PrecedingSiblings x d = refl
links-keep m FollowingSiblings x d = refl
links-keep m Children x d = refl
links-keep m Descendants x d = refl
links-keep m Leaves x d = let z : cond {A = ℕ} true 1 0 ≡ cond false 1 0 = ap (λ (b : Bool). cond b 1 0) d in absurd (omega arith)

-- At most n nodes from x by links.
unfoldable pub linked : List ℕ → ℕ → ℕ → ℕ → ℕ → List ℕ
linked m near far n x = list_from (λ y. true) (λ y. link_else m y near far) n x

linked-same : (m : List ℕ) (used : ℕ) (order : Order) (root : ℕ) → down_b order ≡ false → (n x : ℕ)
    → linked m (near_link order) (far_link order) n x ≡ list_from (keep_b m order) (step_of m used order root) n x
unfolding linked list_from along kept
linked-same m used order root d zero x = refl
linked-same m used order root d (suc n) x =
    let s : step_of m used order root x ≡ link_else m x (near_link order) (far_link order) = simp d at (by_kind m used order root x) in
    let e = linked-same m used order root d n (link_else m x (near_link order) (far_link order)) in
    by (eqb x 0) s e
  where
    by : (b : Bool) → step_of m used order root x ≡ link_else m x (near_link order) (far_link order)
        → kept (λ y. true) (along (λ y. link_else m y (near_link order) (far_link order)) n (link_else m x (near_link order) (far_link order)))
        ≡ kept (keep_b m order) (along (step_of m used order root) n (link_else m x (near_link order) (far_link order)))
        → kept (λ y. true) (cond b [] (x ∷ along (λ y. link_else m y (near_link order) (far_link order)) n (link_else m x (near_link order) (far_link order))))
        ≡ kept (keep_b m order) (cond b [] (x ∷ along (step_of m used order root) n (step_of m used order root x)))
    by true s e = refl
    by false s e = rw (links-keep m order x d, s) (ap (λ (xs : List ℕ). x ∷ xs) e)

-- For such an order that is its list.
pub linked-ordered : (m : List ℕ) (used : ℕ) (order : Order) (root : ℕ) {near far first : ℕ} → down_b order ≡ false → near ≡ near_link order → far ≡ far_link order
    → first ≡ first_of m order root → linked m near far used first ≡ ordered m used order root
unfolding ordered list_from
linked-ordered m used order root {near} {far} {first} d n f e =
    ap (λ (k : ℕ). linked m k far used first) n ∙ ap (λ (k : ℕ). linked m (near_link order) k used first) f
    ∙ ap (linked m (near_link order) (far_link order) used) e ∙ linked-same m used order root d used (first_of m order root)

-- The children, from the first on.
pub linked-children : (m : List ℕ) (n x : ℕ) {first : ℕ} → first ≡ link m x FIRST → linked m NEXT NEXT n first ≡ ordered m n Children x
unfolding first_of
linked-children m n x e = linked-ordered m n Children x refl refl refl e

-- All but children begin with the node itself.
pub first-itself : (m : List ℕ) (order : Order) (x : ℕ) → (order ≡ Children → ⊥) → x ≡ first_of m order x
unfolding first_of
first-itself m Ancestors x h = refl
first-itself m Predecessors x h = refl
first-itself m PrecedingSiblings x h = refl
first-itself m FollowingSiblings x h = refl
first-itself m Children x h = absurd (h refl)
first-itself m Descendants x h = refl
first-itself m Leaves x h = refl

-- All but leaves keep every node.
pub keeps-all : (m : List ℕ) (order : Order) (x : ℕ) → (order ≡ Leaves → ⊥) → true ≡ keep_b m order x
unfolding keep_b
keeps-all m Ancestors x h = refl
keeps-all m Predecessors x h = refl
keeps-all m PrecedingSiblings x h = refl
keeps-all m FollowingSiblings x h = refl
keeps-all m Children x h = refl
keeps-all m Descendants x h = refl
keeps-all m Leaves x h = absurd (h refl)

-- What is kept of at most n nodes from the root, where the order goes down.
pub down-ordered : (m : List ℕ) (used : ℕ) (order : Order) (root : ℕ) → down_b order ≡ true
    → kept (keep_b m order) (along (next_descendant m used root) used root) ≡ ordered m used order root
unfolding ordered first_of step_of
down-ordered m used Ancestors root d = absurd (no d)
down-ordered m used Predecessors root d = absurd (no d)
down-ordered m used PrecedingSiblings root d = absurd (no d)
down-ordered m used FollowingSiblings root d = absurd (no d)
down-ordered m used Children root d = absurd (no d)
down-ordered m used Descendants root d = refl
down-ordered m used Leaves root d = refl
