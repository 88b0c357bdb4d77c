-- Document 01's rules for the linking calls, each as an edit of the chains of a forest: F before the call, F' after it.
-- Excluded: neighbours as they stood before the moved node was taken out; a detached node that takes its later siblings along.
use Rattle.std.specs.Prelude.{◌≡◌, List, [], ◌∷◌, ◌++◌, ℕ}
use Rattle.rules.specs.Lists.{In}
use Rattle.rules.specs.Links.{par, View}
use Rattle.rules.specs.Forest.{Key, children, roots, Forest, put, detached, moved}
use Rattle.rules.specs.Tree.{Above}
use Rattle.moves.specs.declared.place.Place.{Place}
use Rattle.moves.specs.declared.place.Place.TheVariants.{Append, Prepend, After, Before}

-- x is a proper ancestor of t.
abbrev pub Ancestor : View → ℕ → ℕ → Type 0
Ancestor v x t = Above (v par) x (v par t)

-- Where the target t has a node put: between ls and rs of the chain k. Behind all its children, before all its children, right
-- behind t, right before t.
abbrev pub Goes : Place → Forest → ℕ → Key → List ℕ → List ℕ → Type 0
Goes Append F t k ls rs = (k ≡ children t) × (F k ≡ ls) × (rs ≡ [])
Goes Prepend F t k ls rs = (k ≡ children t) × (ls ≡ []) × (F k ≡ rs)
Goes After F t k ls rs = (fs : List ℕ) × (ls ≡ fs ++ t ∷ []) × (F k ≡ fs ++ t ∷ rs)
Goes Before F t k ls rs = (gs : List ℕ) × (rs ≡ t ∷ gs) × (F k ≡ ls ++ t ∷ gs)

-- x stands there already: the last child of t, the first child, right behind t, right before t.
abbrev pub StandsAt : Place → Forest → ℕ → ℕ → Type 0
StandsAt Append F t x = (ls : List ℕ) × (F (children t) ≡ ls ++ x ∷ [])
StandsAt Prepend F t x = (rs : List ℕ) × (F (children t) ≡ x ∷ rs)
StandsAt After F t x = (k : Key) × (ls : List ℕ) × (rs : List ℕ) × (F k ≡ ls ++ t ∷ x ∷ rs)
StandsAt Before F t x = (k : Key) × (ls : List ℕ) × (rs : List ℕ) × (F k ≡ ls ++ x ∷ t ∷ rs)

-- x, which stood in some chain, becomes a chain of one, under a number j that no root chain had.
pub record Detaches (F : Forest) (x j : ℕ) (F' : Forest) : Type 0 where
  pub key : Key
  pub left : List ℕ
  pub right : List ℕ
  pub stood : F key ≡ left ++ x ∷ right
  pub free : F (roots j) ≡ []
  pub is : F' ≡ detached F key left x right j

-- x, a chain of one under j, goes where the target t has it.
pub record Puts (place : Place) (F : Forest) (t x j : ℕ) (F' : Forest) : Type 0 where
  pub key : Key
  pub left : List ℕ
  pub right : List ℕ
  pub goes : Goes place F t key left right
  pub is : F' ≡ moved F key left (x ∷ []) right (roots j)

-- The four moves: the node is taken out first, and its place is looked for in what is left.
pub record Moves (place : Place) (F : Forest) (t x : ℕ) (F' : Forest) : Type 0 where
  pub number : ℕ
  pub middle : Forest
  pub out : Detaches F x number middle
  pub into : Puts place middle t x number F'

-- The four value forms: x is new, a chain of one, and then goes to its place.
pub record MakesAt (place : Place) (F : Forest) (t x : ℕ) (F' : Forest) : Type 0 where
  pub number : ℕ
  pub free : F (roots number) ≡ []
  pub into : Puts place (put F (roots number) (x ∷ [])) t x number F'

-- Each of xs becomes a chain of one, under a number of its own.
abbrev pub singles : Forest → (ℕ → ℕ) → List ℕ → Forest
singles F number [] = F
singles F number (c ∷ cs) = put (singles F number cs) (roots (number c)) (c ∷ [])

-- Each child of x becomes a chain of one, under a number that no root chain had, and x has no children left.
pub record DetachesChildren (F : Forest) (x : ℕ) (F' : Forest) : Type 0 where
  pub number : ℕ → ℕ
  pub apart : (c d : ℕ) → number c ≡ number d → c ≡ d
  pub free : (c : ℕ) → In c (F (children x)) → F (roots (number c)) ≡ []
  pub is : F' ≡ singles (put F (children x) []) number (F (children x))
