-- A walk that is continued from its two numbers goes on as it would have: same edges, same marks, and the same numbers where no budget is given.
-- From the definitions: a found identifier's low half is under 32,768, so its two codes are no other's; 0 is never found.
use Rattle.std.specs.Prelude.{◌≡◌, Bool, List, [], ℕ, suc, ◌+◌, ◌-◌, ◌%◌}
use Rattle.std.proofs.Math.Path.{refl, sym, ap}
use Rattle.std.proofs.Common.{◌∙◌, lt-ltb, le-ltb}
use Rattle.std.proofs.Math.Bool.{true, false}
use native.Mathlib.Omega.{arith}
use Rattle.link.specs.Found.{Found, found_b}
use Rattle.link.specs.FoundLaws.{found_is}
use Rattle.walk.specs.Edges.{edge_id, edge_code, mark_of}
use Rattle.walk.specs.Walks.{traversal}
use Rattle.walk.specs.Codes.{code_if_found, edge_word, edge_of, step_of}
use Rattle.walk.specs.declared.edge.Edge.{Edge}
use Rattle.walk.specs.declared.edge.Edge.TheVariants.{Start, End}
use Rattle.walk.specs.declared.edge.Step.{Step}
use Rattle.walk.specs.declared.edge.Step.TheVariants as S

module _ (m : List ℕ) (used : ℕ) where
  -- what is handed out and taken back
  abbrev pub again : Step → Step
  again next = step_of (edge_word m used next) (mark_of next)

  code-back : (e : Edge) → Found m used (edge_id e) → edge_of (edge_code e) ≡ e
  unfolding edge_of
  code-back (Start x) f = let s = f.small in simp (lt-ltb (x % 65536) 32768 (omega arith))
  code-back (End x) f =
      let s = f.small in
      let b : x + 32768 - 32768 ≡ x = omega arith in
      simp (le-ltb ((x + 32768) % 65536) 32768 (omega arith)) (ap End b)

  none-lost : found_b m used 0 ≡ false
  unfolding found_b
  none-lost = refl

  again-found : (e : Edge) → found_b m used (edge_id e) ≡ true → again (S.Edge e) ≡ S.Edge e
  unfolding step_of edge_word code_if_found
  again-found e t = simp t (ap S.Edge (code-back e (found_is m used (edge_id e) t)))

  again-lost : (e : Edge) → found_b m used (edge_id e) ≡ false → again (S.Edge e) ≡ S.Edge (Start 0)
  unfolding step_of edge_word code_if_found edge_of
  again-lost e t = simp t

  lost_broken : (k root : ℕ) (e : Edge) → found_b m used (edge_id e) ≡ false → traversal (suc k) m used root (S.Edge e) ≡ ([], S.Broken)
  unfolding traversal
  lost_broken k root e t = simp t

  -- The same edges and the same mark, with any budget above none.
  pub coded-walk : (k root : ℕ) (next : Step) → traversal (suc k) m used root (again next) ≡ traversal (suc k) m used root next
  unfolding step_of edge_word
  coded-walk k root S.Over = refl
  coded-walk k root S.Broken = refl
  coded-walk k root (S.Edge e) = by (found_b m used (edge_id e)) refl
    where
      by : (b : Bool) → found_b m used (edge_id e) ≡ b → traversal (suc k) m used root (again (S.Edge e)) ≡ traversal (suc k) m used root (S.Edge e)
      by true t = ap (traversal (suc k) m used root) (again-found e t)
      by false t = ap (traversal (suc k) m used root) (again-lost e t) ∙ lost_broken k root (Start 0) none-lost ∙ sym (lost_broken k root e t)

  -- With none, the same two numbers.
  pub coded-same : (next : Step) → (edge_word m used (again next) ≡ edge_word m used next) × (mark_of (again next) ≡ mark_of next)
  unfolding step_of edge_word code_if_found
  coded-same S.Over = (refl, refl)
  coded-same S.Broken = (refl, refl)
  coded-same (S.Edge e) = (by (found_b m used (edge_id e)) refl, refl)
    where
      by : (b : Bool) → found_b m used (edge_id e) ≡ b → edge_word m used (again (S.Edge e)) ≡ edge_word m used (S.Edge e)
      by true t = ap (edge_word m used) (again-found e t)
      by false t = ap (edge_word m used) (again-lost e t) ∙ simp (none-lost, t)
