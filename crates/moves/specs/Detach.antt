-- `checked_detach`, `checked_detach_children`, on any memory and header: the node with its subtree becomes a chain of one; so does each child.
-- Excluded: a detached node that its old parent still has as last child; children cut off the parent but still linked to each other.
use Rattle.std.specs.Prelude.{false, cond, not, List, ℕ, zero, suc, ◌+◌, eqb}
use Rattle.link.specs.Words.{PARENT, PREVIOUS, NEXT, FIRST, LAST, link, set_link}
use Rattle.link.specs.Siblings.{detach_range}
use Rattle.link.specs.Found.{found_b}
use Rattle.link.specs.declared.header.Header.{Header}
use Rattle.rules.specs.Answers.{DONE, refusal, answer}
use Rattle.rules.specs.declared.answer.Answer.{Answer}

-- A node and its subtree leave parent and siblings.
unfoldable pub detach : List ℕ → ℕ → List ℕ
detach m id = set_link (detach_range m id id) id PARENT 0

-- The nodes from child along next lose next, previous and parent, each in turn; at most n of them.
unfoldable pub scatter : ℕ → List ℕ → ℕ → List ℕ
scatter zero m child = m
scatter (suc n) m child =
    cond (eqb child 0) m
    (let m₁ = set_link m child NEXT 0 in
    let m₂ = set_link m₁ child PREVIOUS 0 in
    scatter n (set_link m₂ child PARENT 0) (link m child NEXT))

-- A node has no first and no last child any more, and those that it had are scattered.
unfoldable pub detach_children : ℕ → List ℕ → ℕ → List ℕ
detach_children n m id = scatter n (set_link (set_link m id FIRST 0) id LAST 0) (link m id FIRST)

-- The number of a call that names one identifier, on ready memory.
unfoldable pub name_no : List ℕ → Header → ℕ → ℕ
name_no m h id = refusal false false false false (not (found_b m h.used id)) false false false

unfoldable pub detach_node : List ℕ → Header → ℕ → List ℕ × Answer
detach_node m h id =
    cond (eqb (name_no m h id) DONE) (detach m id, answer h DONE 0) (m, answer h (name_no m h id) 0)

unfoldable pub detach_children_node : List ℕ → Header → ℕ → List ℕ × Answer
detach_children_node m h id =
    cond (eqb (name_no m h id) DONE) (detach_children (h.used + 1) m id, answer h DONE 0) (m, answer h (name_no m h id) 0)
