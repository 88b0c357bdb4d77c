-- One command on memory that is known to be ready: what each way out leaves.
-- From the laws of the guard, and from what the changes keep.
use Rattle.std.specs.Prelude.{◌≡◌, Bool, true, false, Result, Ok, Err, length}
use Rattle.std.proofs.Math.Path.{refl, sym, ap, subst}
use Rattle.std.proofs.Common.{◌∙◌, le-leb}
use Rattle.std.proofs.lemmas.Bool.{false≢true}
use mathlib.Core.List.{List}
use Prim.Native.Nat.{ℕ, ◌*◌, ◌≤◌}
use Rattle.link.specs.Words.{capacity_of}
use Rattle.link.specs.declared.header.Header.{Header}
use Rattle.rules.specs.Answers.{DONE, answer, reply, refusal_no}
use Rattle.rules.proofs.AnswerLaws.{refused-not_done}
use Rattle.rules.specs.declared.answer.Refusal.{Refusal}
use Rattle.rules.specs.Sound.{Ready}
use Rattle.rules.specs.declared.answer.Answer.{Answer}
use Rattle.rules.specs.declared.answer.Reply.{Reply}
use Rattle.examine.specs.Verdicts.{ready_b}
use Rattle.exact.specs.Exact.{examined-ready}
use Rattle.sound.specs.Guard.{fit_no, ready_no, sound_result, validated}
use Rattle.sound.specs.GuardLaws.{Fits, fit-done, scratch-fits, scratch-unfit, guard-ready, guard-unfit, validated-fits, validated-unfit}
use Rattle.sound.specs.GuardedLaws.{read-passed, read-stopped}
use Rattle.arena.specs.Reads.{read_word, set_number}
use Rattle.arena.specs.Census.{census_of, live_call}
use Rattle.lists.specs.Listing.{counted}
use Rattle.command.specs.Commands.{changed, keeping, called}
use Rattle.command.specs.Known.{gate, ready, verdict_in, settled, Knows, Looked, Gated, Did}
use Rattle.command.specs.StepLaws.{ready-verdict, gated-fit, gated-unfit, gated-settled, did-kept, did-set, did-refused, did_made}
use Rattle.command.specs.Acts.{acted, free_b, said, zeros_after, Roomed}
use Rattle.command.specs.declared.call.Call.{Call}
use Rattle.command.specs.declared.call.Call.TheVariants.{Make, Read, Set, LiveCount, DescendantCount, Validate}
use Rattle.command.specs.declared.known.Known.{Known}
use Rattle.examine.specs.declared.chain.Verdict.{Verdict}
use Rattle.examine.specs.declared.chain.Verdict.TheVariants as Is

module _ (m : List ℕ) (h : Header) (s : List ℕ) where
  -- what is known of ready memory
  pub ready-knows : {clean : ℕ} → Knows m h s (ready clean) → Ready m h × (h.used ≤ capacity_of (length m))
  ready-knows K = ((examined-ready m h).0 (ap ready_b (sym (K.verdict refl))), K.frame refl)

ready_sounds : {v : Verdict} → v ≡ Is.Ready → 1 ≡ sound_result v
unfolding sound_result
ready_sounds q = rw q refl

-- a call that has the guard, on ready memory: let through, and refused
module _ (m : List ℕ) (h : Header) (s : List ℕ) {s' : List ℕ} {clean : ℕ} (a b : ℕ) where
  -- one that leaves the words alone
  acted-kept : {m' : List ℕ} {x : Answer} {r : Reply} {w : List ℕ × Reply} → (s', r) ≡ w → Knows m h s' (ready clean)
      → ◌≡◌ {A = List ℕ × Answer} (m', x) (m, keeping h r) → Did (m, w.0, keeping h w.1) m' s' x (ready clean)
  acted-kept {m'} {x} {r} {w} e K f =
      subst (λ (p : List ℕ × Answer). Did (m, w.0, keeping h w.1) p.0 s' p.1 (ready clean)) (sym f) (did-kept m h s e K)

  acted-guarded : (call : Call) {m' : List ℕ} {x : Answer} → free_b call ≡ false → Gated m h s s' (gate (Ok tt) (ready clean))
      → (m', x) ≡ acted call a b m h → Did (called call a b m h s) m' s' x (ready clean)
  unfolding called live_call
  acted-guarded (Make change) f G e = did_made m h s change a b G refl e
  acted-guarded (Read k) f G e = absurd (false≢true (sym f))
  acted-guarded Set f G e = absurd (false≢true (sym f))
  acted-guarded LiveCount f G e = acted-kept (read-passed m h s G.scratch G.number refl refl) G.knows e
  acted-guarded DescendantCount f G e = acted-kept (read-passed m h s G.scratch G.number refl refl) G.knows e
  acted-guarded Validate f G e =
      let (fits, room, R) = (guard-ready m h (length s)).0 (sym G.number) in
      let F : Fits (length m) h.used (length s) = record { frame = fits; room = room } in
      acted-kept (validated-fits m h s (sym ((fit-done (length m) h.used (length s)).1 F)) refl (G.scratch ∙ scratch-fits m h s F)
      (ready_sounds (ready-verdict m h R))) G.knows e

  stopped-guarded : (call : Call) (refused : Refusal) → free_b call ≡ false → Gated m h s s' (gate (Err refused) (ready clean))
      → Did (called call a b m h s) m s' (answer h (refusal_no refused) 0) (ready clean)
  unfolding called live_call
  stopped-guarded (Make change) refused f G = did-refused m h s (changed change a b m h) G (refused-not_done refused)
  stopped-guarded (Read k) refused f G = absurd (false≢true (sym f))
  stopped-guarded Set refused f G = absurd (false≢true (sym f))
  stopped-guarded LiveCount refused f G =
      did-kept m h s (read-stopped m h s G.scratch G.number (reply DONE (census_of m h).live) (refused-not_done refused)) G.knows
  stopped-guarded DescendantCount refused f G =
      did-kept m h s (read-stopped m h s G.scratch G.number (counted m h.used a) (refused-not_done refused)) G.knows
  stopped-guarded Validate refused f G = did-kept m h s unfit G.knows
    where
      no : ℕ
      no = refusal_no refused

      n : no ≡ DONE → ⊥
      n = refused-not_done refused

      wrong : fit_no (length m) h.used (length s) ≡ DONE → ⊥
      wrong d =
          let F = (fit-done (length m) h.used (length s)).0 d in
          let R = (ready-knows m h s' G.knows).0 in
          n (G.number ∙ (guard-ready m h (length s)).1 (F.frame, F.room, R))

      unfit : (s', reply no 0) ≡ validated m h s
      unfit =
          ap (λ (t : List ℕ). (t, reply no 0)) (G.scratch ∙ scratch-unfit m h s wrong)
          ∙ validated-unfit m h s (G.number ∙ guard-unfit m h (length s) wrong) n

-- by whether the call is free of the guard
module _ (m : List ℕ) (h : Header) (s : List ℕ) (a b : ℕ) {s' : List ℕ} {clean : ℕ} (call : Call) {r : Result ℕ Refusal} (W : Roomed (free_b call) m h s s' clean r) where
  pub did-acted : {now : ℕ} {m' : List ℕ} {x : Answer} → r ≡ Ok now → (m', x) ≡ acted call a b m h
      → Did (called call a b m h s) m' s' x (ready now)
  unfolding called
  did-acted {now} {m'} {x} d e = by call W e
    where
      asked : (c : Call) → Roomed (free_b c) m h s s' clean r → free_b c ≡ false → (m', x) ≡ acted c a b m h → Did (called c a b m h s) m' s' x (ready now)
      asked c V f q = acted-guarded m h s a b c f (subst (λ (t : Result ℕ Refusal). Gated m h s s' (gate (said t) (ready (zeros_after t clean)))) d (V.asked f)) q

      known : Knows m h s' (ready now)
      known = subst (λ (t : Result ℕ Refusal). Knows m h s' (ready (zeros_after t clean))) d W.knows

      by : (c : Call) → Roomed (free_b c) m h s s' clean r → (m', x) ≡ acted c a b m h → Did (called c a b m h s) m' s' x (ready now)
      by (Make change) V q = asked (Make change) V refl q
      by (Read k) V q = acted-kept m h s a b (ap (λ (t : List ℕ). (t, read_word k m h a)) (V.free refl).1) known q
      by Set V q =
          let w = set_number m h a b in
          let z : s' ≡ s = (V.free refl).1 in
          let K : Knows m h s (ready now) = subst (λ (t : List ℕ). Knows m h t (ready now)) z known in
          let D : Did (w.0, s, keeping h w.1) w.0 s (keeping h w.1) (ready now) = did-set m h s a b refl K in
          rw (z, ap (λ (p : List ℕ × Answer). p.0) q, ap (λ (p : List ℕ × Answer). p.1) q) D
      by LiveCount V q = asked LiveCount V refl q
      by DescendantCount V q = asked DescendantCount V refl q
      by Validate V q = asked Validate V refl q

  pub did-stopped : {refused : Refusal} → r ≡ Err refused → Did (called call a b m h s) m s' (answer h (refusal_no refused) 0) (ready clean)
  did-stopped {refused} d = by (free_b call) refl
    where
      by : (f : Bool) → free_b call ≡ f → Did (called call a b m h s) m s' (answer h (refusal_no refused) 0) (ready clean)
      by true f = let (q, _) = W.free f in absurd (cc)
      by false f =
          stopped-guarded m h s a b call refused f (subst (λ (t : Result ℕ Refusal). Gated m h s s' (gate (said t) (ready (zeros_after t clean)))) d (W.asked f))

-- the guard on ready memory: nothing to do, none, or the tests of every call
module _ (m : List ℕ) (h : Header) (s : List ℕ) (free : Bool) {clean : ℕ} (K : Knows m h s (ready clean)) where
  pub roomed-settled : 2 * h.used ≤ clean → Roomed free m h s s clean (Ok clean)
  unfolding settled ready_no
  roomed-settled l = record {
    free = λ _. (refl, refl);
    asked = λ _. gated-settled m h s K (le-leb (2 * h.used) clean l) (refl, refl);
    knows = K;
  }

  pub roomed-free : free ≡ true → Roomed free m h s s clean (Ok clean)
  roomed-free l = record { free = λ _. (refl, refl); asked = λ f. absurd (false≢true (sym f ∙ l)); knows = K }

  pub roomed-looked : {s' : List ℕ} {k : Known} → free ≡ false → DONE ≡ fit_no (length m) h.used (length s) → Looked m h s s' k
      → Roomed free m h s s' clean (Ok k.clean)
  unfolding ready_no
  roomed-looked {s'} {k} l e L =
      let v : verdict_in k ≡ Is.Ready = L.knows.verdict L.looked ∙ sym (K.verdict refl) in
      let G : Gated m h s s' (gate (Ok tt) k) = gated-fit m h s e refl L (sym (ap ready_no v), refl) in
      record { free = λ f. absurd (false≢true (sym l ∙ f)); asked = λ _. record { scratch = G.scratch; number = G.number; knows = still L }; knows = still L }
    where
      still : Looked m h s s' k → Knows m h s' (ready k.clean)
      still L = record { frame = K.frame; verdict = K.verdict; zeros = L.knows.zeros; fits = L.knows.fits }

  pub roomed-unfit : (refused : Refusal) → free ≡ false → refusal_no refused ≡ fit_no (length m) h.used (length s) → Roomed free m h s s clean (Err refused)
  roomed-unfit refused l e =
      record { free = λ f. absurd (false≢true (sym l ∙ f)); asked = λ _. gated-unfit m h s e (Err refused) refl (refused-not_done refused) K; knows = K }
