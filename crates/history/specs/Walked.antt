-- All root chains walked, by the definitions of the lists: the nodes met, in order, and how often.
-- Excluded: a chain begun in its midst; a node's descendants left out.
use Rattle.std.specs.Prelude.{Bool, cond, ◌&&◌, List, [], ◌∷◌, ◌++◌, ℕ, zero, suc, ◌+◌, eqb}
use Rattle.link.specs.Ids.{id_of, stamp_of}
use Rattle.link.specs.Words.{STAMP, word}
use Rattle.rules.specs.Links.{par, prv, view}
use Rattle.arena.specs.Census.{one_if, live_b}
use Rattle.lists.specs.Orders.{ordered}
use Rattle.lists.specs.declared.order.Order.TheVariants.{FollowingSiblings, Descendants}
use Rattle.history.specs.Calls.{Memory}

-- The identifier that slot s has.
abbrev pub id_in : List ℕ → ℕ → ℕ
id_in m s = id_of s (stamp_of (word m s STAMP))

-- Slot s is live and the first of a root chain: its node has no parent and no previous.
abbrev pub leads_b : List ℕ → ℕ → Bool
leads_b m s = live_b m s && eqb (view m par (id_in m s)) 0 && eqb (view m prv (id_in m s)) 0

-- The first nodes of all root chains, of the slots up to n.
abbrev pub firsts : List ℕ → ℕ → List ℕ
firsts m zero = []
firsts m (suc n) = cond (leads_b m (suc n)) (id_in m (suc n) ∷ firsts m n) (firsts m n)

-- What is listed of each member, one after the other.
abbrev pub through : (ℕ → List ℕ) → List ℕ → List ℕ
through f [] = []
through f (x ∷ xs) = f x ++ through f xs

-- All root chains walked: from the first of each along its following siblings, and of each of these all its descendants; by the
-- definitions of the two lists.
abbrev pub walked_all : Memory → List ℕ
walked_all w =
    through (ordered w.words w.header.used Descendants)
    (through (ordered w.words w.header.used FollowingSiblings) (firsts w.words w.header.used))

-- How often x is met.
abbrev pub occurs : ℕ → List ℕ → ℕ
occurs x [] = 0
occurs x (y ∷ ys) = one_if (eqb y x) + occurs x ys
