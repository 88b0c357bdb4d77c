-- Level order: the list itself is the queue. Each node listed is asked for its children in turn, and they are listed at the end.
-- Excluded: the children of a node listed before its siblings; a queue beside the list.
use Rattle.std.specs.Prelude.{cond, List, [], ◌∷◌, ◌++◌, ◌-◌, ℕ, zero, suc, ◌+◌, eqb, ltb, length, get_or}
use Rattle.lists.specs.Orders.{ordered}
use Rattle.lists.specs.declared.order.Order.TheVariants.{Children}

-- xs is listed so far, its first `asked` nodes have been asked for their children; the list has `size` places.
unfoldable pub level_run : ℕ → List ℕ → ℕ → List ℕ → ℕ → List ℕ
level_run zero m size xs asked = xs
level_run (suc n) m size xs asked =
    cond (ltb asked (length xs))
    (level_run n m size (xs ++ ordered m (size - length xs) Children (get_or xs asked 0)) (asked + 1))
    xs

-- As many places as there are descendants.
unfoldable pub level_order : List ℕ → ℕ → ℕ → List ℕ
level_order m size x = cond (eqb size 0) [] (level_run size m size (x ∷ []) 0)
