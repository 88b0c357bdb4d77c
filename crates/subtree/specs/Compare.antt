-- What `subtree_eq` does and answers: the walks of both go on together as long as their edges agree, and the tests before that.
-- Excluded: a comparison that ignores numbers; the second memory examined where the first is refused; scratch of the first left unzeroed.
use Rattle.std.specs.Prelude.{Bool, true, false, cond, not, List, ℕ, zero, suc, ◌+◌, ◌*◌, eqb, length}
use Rattle.link.specs.Words.{NUMBER, link}
use Rattle.link.specs.Found.{found_b}
use Rattle.link.specs.declared.header.Header.{Header}
use Rattle.rules.specs.Answers.{DONE, refusal, reply}
use Rattle.rules.specs.declared.answer.Reply.{Reply}
use Rattle.sound.specs.Guard.{scratch_after, guard_no, guarded_read}
use Rattle.walk.specs.Edges.{next_of_next}
use Rattle.walk.specs.declared.edge.Edge.{Edge}
use Rattle.walk.specs.declared.edge.Edge.TheVariants.{Start, End}
use Rattle.walk.specs.declared.edge.Step.{Step}
use Rattle.walk.specs.declared.edge.Step.TheVariants as S
use Rattle.subtree.specs.declared.Together.{Together}
use Rattle.subtree.specs.declared.Together.TheVariants.{On, Same, Different}

-- Two edges, one of each memory: both starts, of nodes with one number, or both ends.
unfoldable pub alike : List ℕ → Edge → List ℕ → Edge → Bool
alike m (Start x) m' (Start y) = eqb (link m x NUMBER) (link m' y NUMBER)
alike m (Start x) m' (End y) = false
alike m (End x) m' (Start y) = false
alike m (End x) m' (End y) = true

-- Both go on, both are over, or neither.
unfoldable pub together : Step → Step → Together
together (S.Edge e) (S.Edge f) = On e f
together (S.Edge e) S.Over = Different
together (S.Edge e) S.Broken = Different
together S.Over (S.Edge f) = Different
together S.Over S.Over = Same
together S.Over S.Broken = Different
together S.Broken t = Different

-- One step of both walks.
unfoldable pub compare_step : List ℕ → ℕ → Edge → List ℕ → ℕ → Edge → Together
compare_step m x e m' y f = cond (alike m e m' f) (together (next_of_next m x e) (next_of_next m' y f)) Different

abbrev pub by_together : {A : Type 0} → (Edge → Edge → A) → A → A → Together → A
by_together on same different (On e f) = on e f
by_together on same different Same = same
by_together on same different Different = different

-- At most n steps of both.
unfoldable pub compare_run : ℕ → List ℕ → ℕ → Edge → List ℕ → ℕ → Edge → Bool
compare_run zero m x e m' y f = false
compare_run (suc n) m x e m' y f = by_together (λ g h. compare_run n m x g m' y h) true false (compare_step m x e m' y f)

-- Result 1 or 0; REMOVED where either identifier is not found. A tree has two edges for each node.
unfoldable pub compared : List ℕ → ℕ → ℕ → List ℕ → ℕ → ℕ → Reply
compared m used x m' used' y =
    let no = refusal false false false false (not (cond (found_b m used x) (found_b m' used' y) false)) false false false in
    reply no (cond (eqb no DONE) (cond (compare_run (2 * used + 1) m x (Start x) m' y (Start y)) 1 0) 0)

-- The second memory is examined only when the first gives no refusal, with the same scratch.
unfoldable pub subtrees_compared : List ℕ → Header → ℕ → List ℕ → Header → ℕ → List ℕ → List ℕ × Reply
subtrees_compared m h x m' h' y scratch =
    let no = guard_no m h (length scratch) in
    cond (eqb no DONE)
    (guarded_read m' h' (scratch_after m h scratch) (compared m h.used x m' h'.used y))
    (scratch_after m h scratch, reply no 0)
