-- One command where something is known of the memory: what the guard says, and what is known after each way out.
-- From the laws of the guard and from what the changes keep.
use Rattle.std.specs.Prelude.{◌≡◌, refl, true, false, Result, List, ℕ, ◌*◌, ◌≤◌, length}
use Rattle.std.proofs.Common.{sym, ap, ◌∙◌, arith}
use Rattle.std.proofs.lemmas.Bool.{false≢true}
use Rattle.link.specs.Words.{width, capacity_of}
use Rattle.link.specs.declared.header.Header.{Header}
use Rattle.rules.specs.Answers.{DONE, COMMAND, answer, number_in}
use Rattle.rules.specs.declared.answer.Refusal.{Refusal}
use Rattle.rules.specs.Sound.{Ready}
use Rattle.rules.specs.declared.answer.Reply.{Reply}
use Rattle.rules.specs.declared.answer.Answer.{Answer}
use Rattle.examine.specs.Scratch.{zeroed}
use Rattle.examine.specs.Verdicts.{ready_b}
use Rattle.examine.specs.Examination.{examined}
use Rattle.examine.specs.declared.chain.Verdict.{Verdict}
use Rattle.exact.specs.Exact.{examined-ready}
use Rattle.sound.specs.Guard.{fit_no, ready_no, guarded}
use Rattle.sound.specs.GuardLaws.{Fits, fit-done, capacity-fits, scratch-fits, scratch-unfit, guard-fits, guard-unfit, guard-ready}
use Rattle.sound.specs.GuardedLaws.{guarded-done, guarded-refused, passed}
use Rattle.arena.specs.Reads.{set_number, cleared}
use Rattle.keeps.specs.Clear.{clear-ready}
use Rattle.keeps.specs.Set.{set-length}
use Rattle.command.specs.Codes.{acceptable}
use Rattle.command.specs.Calls.{call_of}
use Rattle.command.specs.Commands.{Outcome, changed, keeping, called, commanded}
use Rattle.command.specs.Known.{gate, looked, verdict_in, Knows, Looked, Gated, Did, settled}
use Rattle.command.specs.KnownLaws.{settled-room, looked-still}
use Rattle.command.specs.Ready.{Stays, changed-stays, set-examined}
use Rattle.command.specs.declared.call.Change.{Change}
use Rattle.command.specs.declared.known.Known.{Known}
use Rattle.command.specs.declared.command.Command.{Command}
use Rattle.command.specs.declared.start.Gate.{Gate}
use Rattle.examine.specs.declared.chain.Verdict.TheVariants as Is

-- ready memory has one verdict
pub ready-told : (v : Verdict) → ready_b v ≡ true → v ≡ Is.Ready
ready-told Is.Unsound e = absurd (false≢true e)
ready-told Is.Spent e = absurd (false≢true e)
ready-told Is.Ready e = refl

pub ready-verdict : (m : List ℕ) (h : Header) → Ready m h → examined m h ≡ Is.Ready
ready-verdict m h R = ready-told (examined m h) ((examined-ready m h).1 R)

-- nothing in use
pub knows_fresh : (m s : List ℕ) {k : Known} → (looked k ≡ true) × (verdict_in k ≡ Is.Ready) × (k.clean ≡ 0) → Knows m cleared s k
unfolding zeroed
knows_fresh m s (l, v, z) = record {
  frame = λ _. omega arith;
  verdict = λ _. v ∙ sym (ready-verdict m cleared (clear-ready m));
  zeros = rw z refl;
  fits = rw z (omega arith);
}

module _ (m : List ℕ) (h : Header) (s : List ℕ) {no : ℕ} (e : no ≡ fit_no (length m) h.used (length s)) where
  fits : no ≡ DONE → Fits (length m) h.used (length s)
  fits d = (fit-done (length m) h.used (length s)).0 (sym e ∙ d)

  -- memory that fits can be looked at
  pub fit-look : {k : Known} → no ≡ DONE → Knows m h s k
      → (h.used ≤ 65535) × (h.used * width ≤ length m) × (2 * h.used ≤ length s) × Knows m h s k
  fit-look d K = let (a, b) = capacity-fits (length m) h.used (fits d).frame in (a, b, (fits d).room, K)

  pub gated-fit : {s' : List ℕ} {k : Known} {g : Gate} → no ≡ DONE → Looked m h s s' k → (number_in g.said ≡ ready_no (verdict_in k)) × (g.known ≡ k)
      → Gated m h s s' g
  gated-fit d L (n, q) = record {
    scratch = L.zero ∙ sym (scratch-fits m h s (fits d));
    number = n ∙ ap ready_no (L.knows.verdict L.looked) ∙ sym (guard-fits m h (length s) (fits d));
    knows = rw q L.knows;
  }

  pub gated-unfit : {k : Known} (said : Result Unit Refusal) → number_in said ≡ no → (no ≡ DONE → ⊥) → Knows m h s k → Gated m h s s (gate said k)
  gated-unfit said q n K = record {
    scratch = sym (scratch-unfit m h s (λ q. n (e ∙ q)));
    number = q ∙ e ∙ sym (guard-unfit m h (length s) (λ q. n (e ∙ q)));
    knows = K;
  }

-- where a look would find nothing to do, memory fits and the guard goes by the verdict
pub gated-settled : (m : List ℕ) (h : Header) (s : List ℕ) {k : Known} {g : Gate} → Knows m h s k → settled k h.used ≡ true
    → (number_in g.said ≡ ready_no (verdict_in k)) × (g.known ≡ k) → Gated m h s s g
gated-settled m h s {k} K e n =
    let (l, r) = settled-room k s h.used e K.fits in
    let f : Fits (length m) h.used (length s) = record { frame = K.frame l; room = r } in
    gated-fit m h s refl ((fit-done (length m) h.used (length s)).1 f) (looked-still m h s K e) n

-- what the guard let through is ready and fits
pub gated-ready : (m : List ℕ) (h : Header) (s : List ℕ) {s' : List ℕ} {g : Gate} → Gated m h s s' g → number_in g.said ≡ DONE
    → Ready m h × (h.used ≤ capacity_of (length m))
gated-ready m h s G d =
    let w = (guard-ready m h (length s)).0 (passed m h s G.scratch G.number d) in
    (w.2, w.0)

pub did-same : {w w' : Outcome} {m s : List ℕ} {a : Answer} {k : Known} → w ≡ w' → Did w m s a k → Did w' m s a k
did-same e D = record { same = D.same ∙ e; knows = D.knows }

module _ (m : List ℕ) (h : Header) (s : List ℕ) where
  -- a call that leaves words and header alone
  pub did-kept : {s' : List ℕ} {k : Known} {w : List ℕ × Reply} {r : Reply} → (s', r) ≡ w → Knows m h s' k
      → Did (m, w.0, keeping h w.1) m s' (keeping h r) k
  did-kept e K = record { same = ap (λ (w : List ℕ × Reply). (m, w.0, keeping h w.1)) e; knows = K }

  -- set keeps the verdict
  pub did-set : {m' : List ℕ} {k : Known} {r : Reply} (id v : ℕ) → (m', r) ≡ set_number m h id v → Knows m h s k
      → Did ((set_number m h id v).0, s, keeping h (set_number m h id v).1) m' s (keeping h r) k
  did-set {m'} {k} id v e K = record {
    same = ap (λ (w : List ℕ × Reply). (w.0, s, keeping h w.1)) e;
    knows = record {
      frame = λ l. rw (ap (λ (w : List ℕ × Reply). length w.0) e ∙ set-length m h id v) (K.frame l);
      verdict = λ l. K.verdict l ∙ sym (ap (λ (w : List ℕ × Reply). examined w.0 h) e ∙ set-examined m h id v);
      zeros = K.zeros;
      fits = K.fits;
    };
  }

  pub did-refused : {s' : List ℕ} {g : Gate} (work : List ℕ × Answer) → Gated m h s s' g → (number_in g.said ≡ DONE → ⊥)
      → Did (guarded m h s work) m s' (answer h (number_in g.said) 0) g.known
  did-refused work G n = record { same = guarded-refused m h s G.scratch G.number work n; knows = G.knows }

-- ready memory stays ready
pub did_made : (m : List ℕ) (h : Header) (s : List ℕ) {m' s' : List ℕ} {g : Gate} {r : Answer} (change : Change) (a b : ℕ)
    → Gated m h s s' g → number_in g.said ≡ DONE → (m', r) ≡ changed change a b m h
    → Did (guarded m h s (changed change a b m h)) m' s' r g.known
did_made m h s {m'} {s'} {g} {r} change a b G n e = record {
  same = guarded-done m h s G.scratch G.number n e;
  knows = record {
    frame = λ _. rw (ap (λ (p : List ℕ × Answer). p.0) e, ap (λ (p : List ℕ × Answer). p.1) e) stays.fits;
    verdict = λ l. G.knows.verdict l ∙ ready-verdict m h was.0 ∙ sym (ready-verdict m' r.header now-ready);
    zeros = G.knows.zeros;
    fits = G.knows.fits;
  };
}
  where
    was : Ready m h × (h.used ≤ capacity_of (length m))
    was = gated-ready m h s G n

    stays : Stays m (changed change a b m h)
    stays = changed-stays m h was.0 was.1 change a b

    now-ready : Ready m' r.header
    now-ready = rw (ap (λ (p : List ℕ × Answer). p.0) e, ap (λ (p : List ℕ × Answer). p.1) e) stays.ready

-- COMMAND first
module _ (c : Command) (m : List ℕ) (h : Header) (s : List ℕ) where
  pub did-accepted : {m' s' : List ℕ} {a : Answer} {k : Known} → acceptable c.code c.unused c.a c.b ≡ true
      → Did (called (call_of c.code) c.a c.b m h s) m' s' a k → Did (commanded c m h s) m' s' a k
  unfolding commanded
  did-accepted e D = rw e D

  pub did_rejected : {k : Known} → acceptable c.code c.unused c.a c.b ≡ false → Knows m h s k
      → Did (commanded c m h s) m s (answer h COMMAND 0) k
  unfolding commanded
  did_rejected e K = rw e (record { same = refl; knows = K })
