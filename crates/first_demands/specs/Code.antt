-- Every public function of document 01's calls does that call: what its own statement allows is what `done` says, on the memory lent to it. So what
-- is proved of `done`, and of `called` below it, is of the code. What it hands back is read in numbers, by the view that its statement has of it.
-- Excluded: a model that is proved about and that no code follows.
use Rattle.std.specs.Prelude.{◌≡◌, List, ℕ}
use Rattle.std.proofs.Common.{ap}
use borrow.Fn.Kind.{ParamKind, ResultKind}
use borrow.Fn.Kinds.{Out, Dens}
use contract.Lifetimes.{Lfts}
use Rattle.link.specs.Words.{NUMBER, PARENT, PREVIOUS, NEXT, FIRST, LAST}
use Rattle.link.specs.declared.header.Header.{Header}
use Rattle.rules.specs.Answers.{DONE, reply, answer, reply_of, reply_done, reply_yes, answer_kept, answer_changed, answer_created}
use Rattle.rules.specs.declared.answer.Answer.{Answer}
use Rattle.rules.specs.declared.answer.Reply.{Reply}
use Rattle.arena.specs.Census.{counted_of}
use Rattle.arena.specs.Create.{new_call}
use Rattle.arena.specs.Reads.{cleared}
use Rattle.moves.specs.declared.place.Place.TheVariants.{Append, Prepend, After, Before}
use Rattle.lists.specs.declared.order.Order.TheVariants.{Descendants, Leaves, Ancestors, Children, FollowingSiblings, PrecedingSiblings, Predecessors}
use Rattle.walk.specs.Walks.{started_by, walked_by}
use Rattle.image.specs.Load.{loaded_of}
use Rattle.batch.specs.Answered.{answer_batched}
use Rattle.command.specs.declared.call.Change.TheVariants.{New, Move, Detach, DetachChildren, Remove, RemoveSubtree, RemoveChildren, Value}
use Rattle.determined.specs.Outcome.{Outcome, Allows}
use Rattle.history.specs.Calls.{Memory, memory, Told, change, read, single, counts_live, counts_descendants, list, levels, compare_with, start, answers, replies, counts, starts, walks, writes}
use Rattle.first_demands.specs.Every.{one, done}
use Rattle.history.specs.Calls as call
use Rattle.first_demands.specs.Every as every
use Rattle.arena.proofs.arena.new_node
use Rattle.moves.proofs.calls.checked_append
use Rattle.moves.proofs.calls.checked_prepend
use Rattle.moves.proofs.calls.checked_insert_after
use Rattle.moves.proofs.calls.checked_insert_before
use Rattle.moves.proofs.calls.append_value
use Rattle.moves.proofs.calls.prepend_value
use Rattle.moves.proofs.calls.insert_after_value
use Rattle.moves.proofs.calls.insert_before_value
use Rattle.moves.proofs.calls.checked_detach
use Rattle.moves.proofs.calls.checked_detach_children
use Rattle.removal.proofs.removal.checked_remove
use Rattle.removal.proofs.removal.checked_remove_subtree
use Rattle.removal.proofs.removal.remove_children
use Rattle.arena.proofs.node.set
use Rattle.arena.proofs.node.get
use Rattle.arena.proofs.node.parent
use Rattle.arena.proofs.node.first_child
use Rattle.arena.proofs.node.last_child
use Rattle.arena.proofs.node.next_sibling
use Rattle.arena.proofs.node.previous_sibling
use Rattle.sound.proofs.validate
use Rattle.arena.proofs.arena.census
use Rattle.arena.proofs.arena.live_count
use Rattle.lists.proofs.calls.descendant_count
use Rattle.preorder.proofs.calls.descendants
use Rattle.lists.proofs.calls.leaves
use Rattle.lists.proofs.calls.ancestors
use Rattle.lists.proofs.calls.children
use Rattle.lists.proofs.calls.following_siblings
use Rattle.lists.proofs.calls.preceding_siblings
use Rattle.lists.proofs.calls.predecessors
use Rattle.lists.proofs.calls.breadth_first
use Rattle.subtree.proofs.subtree_eq
use Rattle.walk.proofs.walk.walk_start
use Rattle.walk.proofs.walk.walk
use Rattle.image.proofs.save.save
use Rattle.image.proofs.load.load
use Rattle.arena.proofs.arena.clear
use Rattle.command.proofs.command.one_command
use Rattle.batch.proofs.batch.batch

-- Of every outcome that the statement allows: its arguments by name, the result r, and with a prime what is left in each of them; s is scratch, of
-- a call that takes none.
abbrev pub Says : {n : ℕ} (ps : List (ParamKind n)) (r : ResultKind n) (told : Out n ps r)
    → ((κs : Lfts n) (a : Dens κs ps) → Outcome ps r κs a → List ℕ → Type 0) → Type 0
Says {n} ps r told P =
    (κs : Lfts n) (a : Dens κs ps) (x : Outcome ps r κs a) → Allows ps r told κs a x → (s : List ℕ) → P κs a x s

-- In numbers: words, scratch and answer; and with a list.
abbrev pub changed : List ℕ × List ℕ × Answer → Memory × Told
changed t = (memory t.0 t.2.header t.1, answers t.2)

abbrev pub batched : List ℕ × List ℕ × List ℕ × Answer → Memory × Told
batched t = (memory t.0 t.3.header t.1, writes t.2 (reply t.3.number t.3.result))

-- A read of a word; scratch, list and reply.
abbrev pub read_by : List ℕ → Header → List ℕ → Reply → Memory × Told
read_by m h s r = (memory m h s, replies r)

abbrev pub listed : List ℕ → Header → List ℕ × List ℕ × Reply → Memory × Told
listed m h t = (memory m h t.0, writes t.1 t.2)

-- ---- the changes

pub does-new_node : Says new_node.Kinds.ps new_node.Kinds.r new_node.Reads.Learnt
    (λ _ (words, (h, (scratch, (number, _)))) (r, (words', (_, (scratch', _)))) _.
    changed (words', scratch', answer_created h r)
    ≡ done (one (change New number 0)) (memory words.now h scratch.now))
unfolding new_call
does-new_node _ _ _ p _ = ap changed p

pub does-checked_append : Says checked_append.Kinds.ps checked_append.Kinds.r checked_append.Reads.Learnt
    (λ _ (words, (h, (scratch, (target, (moved, _))))) (r, (words', (_, (scratch', _)))) _.
    changed (words', scratch', answer_kept h r)
    ≡ done (one (change (Move Append) target moved)) (memory words.now h scratch.now))
does-checked_append _ _ _ p _ = ap changed p

pub does-checked_prepend : Says checked_prepend.Kinds.ps checked_prepend.Kinds.r checked_prepend.Reads.Learnt
    (λ _ (words, (h, (scratch, (target, (moved, _))))) (r, (words', (_, (scratch', _)))) _.
    changed (words', scratch', answer_kept h r)
    ≡ done (one (change (Move Prepend) target moved)) (memory words.now h scratch.now))
does-checked_prepend _ _ _ p _ = ap changed p

pub does-checked_insert_after : Says checked_insert_after.Kinds.ps checked_insert_after.Kinds.r checked_insert_after.Reads.Learnt
    (λ _ (words, (h, (scratch, (target, (moved, _))))) (r, (words', (_, (scratch', _)))) _.
    changed (words', scratch', answer_kept h r)
    ≡ done (one (change (Move After) target moved)) (memory words.now h scratch.now))
does-checked_insert_after _ _ _ p _ = ap changed p

pub does-checked_insert_before : Says checked_insert_before.Kinds.ps checked_insert_before.Kinds.r checked_insert_before.Reads.Learnt
    (λ _ (words, (h, (scratch, (target, (moved, _))))) (r, (words', (_, (scratch', _)))) _.
    changed (words', scratch', answer_kept h r)
    ≡ done (one (change (Move Before) target moved)) (memory words.now h scratch.now))
does-checked_insert_before _ _ _ p _ = ap changed p

pub does-append_value : Says append_value.Kinds.ps append_value.Kinds.r append_value.Reads.Learnt
    (λ _ (words, (h, (scratch, (target, (value, _))))) (r, (words', (_, (scratch', _)))) _.
    changed (words', scratch', answer_created h r)
    ≡ done (one (change (Value Append) target value)) (memory words.now h scratch.now))
does-append_value _ _ _ p _ = ap changed p

pub does-prepend_value : Says prepend_value.Kinds.ps prepend_value.Kinds.r prepend_value.Reads.Learnt
    (λ _ (words, (h, (scratch, (target, (value, _))))) (r, (words', (_, (scratch', _)))) _.
    changed (words', scratch', answer_created h r)
    ≡ done (one (change (Value Prepend) target value)) (memory words.now h scratch.now))
does-prepend_value _ _ _ p _ = ap changed p

pub does-insert_after_value : Says insert_after_value.Kinds.ps insert_after_value.Kinds.r insert_after_value.Reads.Learnt
    (λ _ (words, (h, (scratch, (target, (value, _))))) (r, (words', (_, (scratch', _)))) _.
    changed (words', scratch', answer_created h r)
    ≡ done (one (change (Value After) target value)) (memory words.now h scratch.now))
does-insert_after_value _ _ _ p _ = ap changed p

pub does-insert_before_value : Says insert_before_value.Kinds.ps insert_before_value.Kinds.r insert_before_value.Reads.Learnt
    (λ _ (words, (h, (scratch, (target, (value, _))))) (r, (words', (_, (scratch', _)))) _.
    changed (words', scratch', answer_created h r)
    ≡ done (one (change (Value Before) target value)) (memory words.now h scratch.now))
does-insert_before_value _ _ _ p _ = ap changed p

pub does-checked_detach : Says checked_detach.Kinds.ps checked_detach.Kinds.r checked_detach.Reads.Learnt
    (λ _ (words, (h, (scratch, (id, _)))) (r, (words', (_, (scratch', _)))) _.
    changed (words', scratch', answer_kept h r)
    ≡ done (one (change Detach id 0)) (memory words.now h scratch.now))
does-checked_detach _ _ _ p _ = ap changed p

pub does-checked_detach_children : Says checked_detach_children.Kinds.ps checked_detach_children.Kinds.r checked_detach_children.Reads.Learnt
    (λ _ (words, (h, (scratch, (id, _)))) (r, (words', (_, (scratch', _)))) _.
    changed (words', scratch', answer_kept h r)
    ≡ done (one (change DetachChildren id 0)) (memory words.now h scratch.now))
does-checked_detach_children _ _ _ p _ = ap changed p

pub does-checked_remove : Says checked_remove.Kinds.ps checked_remove.Kinds.r checked_remove.Reads.Learnt
    (λ _ (words, (h, (scratch, (id, _)))) (r, (words', (_, (scratch', _)))) _.
    changed (words', scratch', answer_changed h r)
    ≡ done (one (change Remove id 0)) (memory words.now h scratch.now))
does-checked_remove _ _ _ p _ = ap changed p

pub does-checked_remove_subtree : Says checked_remove_subtree.Kinds.ps checked_remove_subtree.Kinds.r checked_remove_subtree.Reads.Learnt
    (λ _ (words, (h, (scratch, (id, _)))) (r, (words', (_, (scratch', _)))) _.
    changed (words', scratch', answer_changed h r)
    ≡ done (one (change RemoveSubtree id 0)) (memory words.now h scratch.now))
does-checked_remove_subtree _ _ _ p _ = ap changed p

pub does-remove_children : Says remove_children.Kinds.ps remove_children.Kinds.r remove_children.Reads.Learnt
    (λ _ (words, (h, (scratch, (id, _)))) (r, (words', (_, (scratch', _)))) _.
    changed (words', scratch', answer_changed h r)
    ≡ done (one (change RemoveChildren id 0)) (memory words.now h scratch.now))
does-remove_children _ _ _ p _ = ap changed p

pub does-set : Says set.Kinds.ps set.Kinds.r set.Reads.Learnt
    (λ _ (words, (h, (id, (value, _)))) (r, (words', _)) s.
    (memory words' h s, replies (reply_done r))
    ≡ done (one (call.set id value)) (memory words.now h s))
does-set _ (_, (h, _)) _ p s = ap (λ t. (memory t.0 h s, replies t.1)) p

-- ---- single reads

pub does-get : Says get.Kinds.ps get.Kinds.r get.Reads.Learnt
    (λ _ (words, (h, (id, _))) (r, _) s.
    read_by words.now h s (reply_of r)
    ≡ done (one (read (single NUMBER id))) (memory words.now h s))
does-get _ (words, (h, _)) _ p s = ap (read_by words.now h s) p

pub does-parent : Says parent.Kinds.ps parent.Kinds.r parent.Reads.Learnt
    (λ _ (words, (h, (id, _))) (r, _) s.
    read_by words.now h s (reply_of r)
    ≡ done (one (read (single PARENT id))) (memory words.now h s))
does-parent _ (words, (h, _)) _ p s = ap (read_by words.now h s) p

pub does-first_child : Says first_child.Kinds.ps first_child.Kinds.r first_child.Reads.Learnt
    (λ _ (words, (h, (id, _))) (r, _) s.
    read_by words.now h s (reply_of r)
    ≡ done (one (read (single FIRST id))) (memory words.now h s))
does-first_child _ (words, (h, _)) _ p s = ap (read_by words.now h s) p

pub does-last_child : Says last_child.Kinds.ps last_child.Kinds.r last_child.Reads.Learnt
    (λ _ (words, (h, (id, _))) (r, _) s.
    read_by words.now h s (reply_of r)
    ≡ done (one (read (single LAST id))) (memory words.now h s))
does-last_child _ (words, (h, _)) _ p s = ap (read_by words.now h s) p

pub does-next_sibling : Says next_sibling.Kinds.ps next_sibling.Kinds.r next_sibling.Reads.Learnt
    (λ _ (words, (h, (id, _))) (r, _) s.
    read_by words.now h s (reply_of r)
    ≡ done (one (read (single NEXT id))) (memory words.now h s))
does-next_sibling _ (words, (h, _)) _ p s = ap (read_by words.now h s) p

pub does-previous_sibling : Says previous_sibling.Kinds.ps previous_sibling.Kinds.r previous_sibling.Reads.Learnt
    (λ _ (words, (h, (id, _))) (r, _) s.
    read_by words.now h s (reply_of r)
    ≡ done (one (read (single PREVIOUS id))) (memory words.now h s))
does-previous_sibling _ (words, (h, _)) _ p s = ap (read_by words.now h s) p

-- ---- the validator, counts

pub does-validate : Says validate.Kinds.ps validate.Kinds.r validate.Reads.Learnt
    (λ _ (words, (h, (scratch, _))) (r, (_, (_, (scratch', _)))) _.
    (memory words.now h scratch', replies (reply_yes r))
    ≡ done (one (read call.validate)) (memory words.now h scratch.now))
does-validate _ (words, (h, _)) _ p _ = ap (λ t. (memory words.now h t.0, replies t.1)) p.0

pub does-census : Says census.Kinds.ps census.Kinds.r census.Reads.Learnt
    (λ _ (words, (h, (scratch, _))) (r, (_, (_, (scratch', _)))) _.
    (memory words.now h scratch', counts (counted_of r))
    ≡ done (one (read call.census)) (memory words.now h scratch.now))
does-census _ (words, (h, _)) _ p _ = ap (λ t. (memory words.now h t.0, counts t.1)) p

pub does-live_count : Says live_count.Kinds.ps live_count.Kinds.r live_count.Reads.Learnt
    (λ _ (words, (h, (scratch, _))) (r, (_, (_, (scratch', _)))) _.
    (memory words.now h scratch', replies (reply_of r))
    ≡ done (one (read counts_live)) (memory words.now h scratch.now))
does-live_count _ (words, (h, _)) _ p _ = ap (λ t. (memory words.now h t.0, replies t.1)) p

pub does-descendant_count : Says descendant_count.Kinds.ps descendant_count.Kinds.r descendant_count.Reads.Learnt
    (λ _ (words, (h, (scratch, (id, _)))) (r, (_, (_, (scratch', _)))) _.
    (memory words.now h scratch', replies (reply_of r))
    ≡ done (one (read (counts_descendants id))) (memory words.now h scratch.now))
does-descendant_count _ (words, (h, _)) _ p _ = ap (λ t. (memory words.now h t.0, replies t.1)) p

-- ---- lists

pub does-descendants : Says descendants.Kinds.ps descendants.Kinds.r descendants.Reads.Learnt
    (λ _ (words, (h, (scratch, (id, (places, _))))) (r, (_, (_, (scratch', (_, (places', _)))))) _.
    listed words.now h (scratch', places', reply_of r)
    ≡ done (one (read (list Descendants id places.now))) (memory words.now h scratch.now))
does-descendants _ (words, (h, _)) _ p _ = ap (listed words.now h) p

pub does-leaves : Says leaves.Kinds.ps leaves.Kinds.r leaves.Reads.Learnt
    (λ _ (words, (h, (scratch, (id, (places, _))))) (r, (_, (_, (scratch', (_, (places', _)))))) _.
    listed words.now h (scratch', places', reply_of r)
    ≡ done (one (read (list Leaves id places.now))) (memory words.now h scratch.now))
does-leaves _ (words, (h, _)) _ p _ = ap (listed words.now h) p

pub does-ancestors : Says ancestors.Kinds.ps ancestors.Kinds.r ancestors.Reads.Learnt
    (λ _ (words, (h, (scratch, (id, (places, _))))) (r, (_, (_, (scratch', (_, (places', _)))))) _.
    listed words.now h (scratch', places', reply_of r)
    ≡ done (one (read (list Ancestors id places.now))) (memory words.now h scratch.now))
does-ancestors _ (words, (h, _)) _ p _ = ap (listed words.now h) p

pub does-children : Says children.Kinds.ps children.Kinds.r children.Reads.Learnt
    (λ _ (words, (h, (scratch, (id, (places, _))))) (r, (_, (_, (scratch', (_, (places', _)))))) _.
    listed words.now h (scratch', places', reply_of r)
    ≡ done (one (read (list Children id places.now))) (memory words.now h scratch.now))
does-children _ (words, (h, _)) _ p _ = ap (listed words.now h) p

pub does-following_siblings : Says following_siblings.Kinds.ps following_siblings.Kinds.r following_siblings.Reads.Learnt
    (λ _ (words, (h, (scratch, (id, (places, _))))) (r, (_, (_, (scratch', (_, (places', _)))))) _.
    listed words.now h (scratch', places', reply_of r)
    ≡ done (one (read (list FollowingSiblings id places.now))) (memory words.now h scratch.now))
does-following_siblings _ (words, (h, _)) _ p _ = ap (listed words.now h) p

pub does-preceding_siblings : Says preceding_siblings.Kinds.ps preceding_siblings.Kinds.r preceding_siblings.Reads.Learnt
    (λ _ (words, (h, (scratch, (id, (places, _))))) (r, (_, (_, (scratch', (_, (places', _)))))) _.
    listed words.now h (scratch', places', reply_of r)
    ≡ done (one (read (list PrecedingSiblings id places.now))) (memory words.now h scratch.now))
does-preceding_siblings _ (words, (h, _)) _ p _ = ap (listed words.now h) p

pub does-predecessors : Says predecessors.Kinds.ps predecessors.Kinds.r predecessors.Reads.Learnt
    (λ _ (words, (h, (scratch, (id, (places, _))))) (r, (_, (_, (scratch', (_, (places', _)))))) _.
    listed words.now h (scratch', places', reply_of r)
    ≡ done (one (read (list Predecessors id places.now))) (memory words.now h scratch.now))
does-predecessors _ (words, (h, _)) _ p _ = ap (listed words.now h) p

pub does-breadth_first : Says breadth_first.Kinds.ps breadth_first.Kinds.r breadth_first.Reads.Learnt
    (λ _ (words, (h, (scratch, (id, (places, _))))) (r, (_, (_, (scratch', (_, (places', _)))))) _.
    listed words.now h (scratch', places', reply_of r)
    ≡ done (one (read (levels id places.now))) (memory words.now h scratch.now))
does-breadth_first _ (words, (h, _)) _ p _ = ap (listed words.now h) p

-- ---- the comparison, on the first memory

pub does-subtree_eq : Says subtree_eq.Kinds.ps subtree_eq.Kinds.r subtree_eq.Reads.Learnt
    (λ _ (words, (h, (id, (others, (other-h, (other-id, (scratch, _))))))) (r, (_, (_, (_, (_, (_, (_, (scratch', _)))))))) _.
    (memory words.now h scratch', replies (reply_yes r))
    ≡ done (one (read (compare_with id others.now other-h other-id))) (memory words.now h scratch.now))
does-subtree_eq _ (words, (h, _)) _ p _ = ap (λ t. (memory words.now h t.0, replies t.1)) p

-- ---- walks

pub does-walk_start : Says walk_start.Kinds.ps walk_start.Kinds.r walk_start.Reads.Learnt
    (λ _ (words, (h, (root, _))) (r, _) s.
    (memory words.now h s, starts (started_by root r))
    ≡ done (one (read (start root))) (memory words.now h s))
does-walk_start _ (words, (h, _)) _ p s = ap (λ t. (memory words.now h s, starts t)) p

pub does-walk : Says walk.Kinds.ps walk.Kinds.r walk.Reads.Learnt
    (λ _ (words, (h, (from, (budget, (places, _))))) (r, (_, (_, (_, (_, (places', _)))))) s.
    (memory words.now h s, walks places' (walked_by from r))
    ≡ done (one (read (call.walk from budget places.now))) (memory words.now h s))
does-walk _ (words, (h, _)) _ p s = ap (λ t. (memory words.now h s, walks t.0 t.1)) p

-- ---- save, load, clear

pub does-save : Says save.Kinds.ps save.Kinds.r save.Reads.Learnt
    (λ _ (words, (h, (scratch, (bytes, _)))) (r, (_, (_, (scratch', (bytes', _))))) _.
    listed words.now h (scratch', bytes', reply_of r)
    ≡ done (one (read (call.save bytes.now))) (memory words.now h scratch.now))
does-save _ (words, (h, _)) _ p _ = ap (listed words.now h) p

pub does-load : Says load.Kinds.ps load.Kinds.r load.Reads.Learnt
    (λ _ (bytes, (words, (scratch, _))) (r, (_, (words', (scratch', _)))) _.
    changed (words', scratch', loaded_of r)
    ≡ done (every.load bytes.now) (memory words.now cleared scratch.now))
does-load _ _ _ p _ = ap changed p

pub does-clear : Says clear.Kinds.ps clear.Kinds.r clear.Reads.Learnt
    (λ _ _ (h, _) s.
    (memory s h s, answers (answer h DONE 0))
    ≡ done every.clear (memory s cleared s))
does-clear _ _ _ p s = ap (λ h. (memory s h s, answers (answer h DONE 0))) p

-- ---- commands

pub does-one_command : Says one_command.Kinds.ps one_command.Kinds.r one_command.Reads.Learnt
    (λ _ (words, (h, (scratch, (c, _)))) (r, (words', (_, (scratch', _)))) _.
    changed (words', scratch', r)
    ≡ done (every.command c) (memory words.now h scratch.now))
does-one_command _ _ _ p _ = ap changed p

pub does-batch : Says batch.Kinds.ps batch.Kinds.r batch.Reads.Learnt
    (λ _ (words, (h, (scratch, (trace, (places, _))))) (r, (words', (_, (scratch', (_, (places', _)))))) _.
    batched (words', scratch', places', answer_batched h r)
    ≡ done (every.batch trace.now places.now) (memory words.now h scratch.now))
does-batch _ _ _ p _ = ap batched p
