-- A command that is started where memory is not known to be ready: what each way out leaves.
-- From the laws of the guard: on what it left it says the same again.
use Rattle.std.specs.Prelude.{◌≡◌, Bool, Some, None, Err, ℕ, ◌*◌}
use Rattle.std.proofs.Math.Path.{refl, sym, ap}
use Rattle.std.proofs.Common.{◌∙◌, subst, eqb-true}
use Rattle.std.proofs.Math.Bool.{true, false, cond}
use Rattle.std.proofs.lemmas.Bool.{false≢true}
use mathlib.Core.List.{List}
use Rattle.std.proofs.Math.Dec.{eqb}
use Rattle.std.proofs.Math.ListN.{length}
use Rattle.link.specs.declared.header.Header.{Header}
use Rattle.rules.specs.Answers.{DONE, answer, reply, refusal_no, number_in}
use Rattle.rules.proofs.AnswerLaws.{refused-not_done}
use Rattle.rules.specs.declared.answer.Refusal.{Refusal}
use Rattle.rules.specs.declared.answer.Answer.{Answer}
use Rattle.rules.specs.declared.answer.Reply.{Reply}
use Rattle.examine.specs.Scratch.{zeroed}
use Rattle.examine.specs.Verdicts.{ready_b}
use Rattle.sound.specs.Guard.{fit_no, scratch_after, guarded, guarded_read}
use Rattle.sound.specs.GuardLaws.{fit-done}
use Rattle.sound.specs.GuardedLaws.{read-stopped}
use Rattle.arena.specs.Census.{census_of, live_call}
use Rattle.lists.specs.Listing.{counted}
use Rattle.command.specs.Calls.{call_of}
use Rattle.command.specs.Commands.{Outcome, changed, keeping, called, commanded}
use Rattle.command.specs.Codes.{acceptable}
use Rattle.command.specs.Known.{gate, ready, looked, verdict_in, known_ready, Knows, Gated, Did}
use Rattle.command.specs.KnownLaws.{zeroed-length, zeroed-again}
use Rattle.command.specs.StepLaws.{ready-told, ready-verdict, gated-ready, did-kept, did-refused}
use Rattle.command.specs.Acts.{replies, readies, Enters, Starts}
use Rattle.command.specs.declared.call.Change.{Change}
use Rattle.command.specs.declared.call.Call.{Call}
use Rattle.command.specs.declared.call.Call.TheVariants.{Make, LiveCount, DescendantCount, Validate}
use Rattle.command.specs.declared.known.Known.{Known}
use Rattle.command.specs.declared.command.Command.{Command}
use Rattle.command.specs.declared.start.Gate.{Gate}
use Rattle.command.specs.declared.start.Begun.{Begun}

module _ (m : List ℕ) (h : Header) (s : List ℕ) where
  -- known to be ready, whatever else is carried along
  pub known-ready : {k : Known} → Knows m h s k → known_ready k ≡ true → Knows m h s (ready k.clean)
  unfolding known_ready
  known-ready {k} K e = by (looked k) refl e
    where
      by : (b : Bool) → looked k ≡ b → cond b (ready_b (verdict_in k)) false ≡ true → Knows m h s (ready k.clean)
      by true l t = record {
        frame = λ _. K.frame l;
        verdict = λ _. sym (ready-told (verdict_in k) t) ∙ K.verdict l;
        zeros = K.zeros;
        fits = K.fits;
      }
      by false l t = absurd (false≢true t)

-- the guard again, on what it left
module _ (m : List ℕ) (h : Header) (s : List ℕ) where
  kept-length : length (scratch_after m h s) ≡ length s
  unfolding scratch_after
  kept-length = by (eqb (fit_no (length m) h.used (length s)) DONE) refl
    where
      by : (b : Bool) → eqb (fit_no (length m) h.used (length s)) DONE ≡ b → length (cond b (zeroed (2 * h.used) s) s) ≡ length s
      by true e = zeroed-length (2 * h.used) s ((fit-done (length m) h.used (length s)).0 (eqb-true _ DONE e)).room
      by false e = refl

  kept_again : scratch_after m h (scratch_after m h s) ≡ scratch_after m h s
  unfolding scratch_after
  kept_again = rw kept-length (by (eqb (fit_no (length m) h.used (length s)) DONE))
    where
      by : (b : Bool) → cond b (zeroed (2 * h.used) (cond b (zeroed (2 * h.used) s) s)) (cond b (zeroed (2 * h.used) s) s) ≡ cond b (zeroed (2 * h.used) s) s
      by true = zeroed-again (2 * h.used) s
      by false = refl

  guarded-again : (work : List ℕ × Answer) → guarded m h (scratch_after m h s) work ≡ guarded m h s work
  unfolding guarded
  guarded-again work = rw (kept-length, kept_again) refl

  read_again : (work : Reply) → guarded_read m h (scratch_after m h s) work ≡ guarded_read m h s work
  unfolding guarded_read
  read_again work = rw (kept-length, kept_again) refl

-- the guard let a command through: memory is known to be ready
pub entered-ready : (m : List ℕ) (h : Header) (s : List ℕ) {s' : List ℕ} {g : Gate} {r : Begun} → Gated m h s s' g → number_in g.said ≡ DONE
    → r ≡ readies g.known → Enters m h s s' r
entered-ready m h s {s'} {g} G d e =
    let (R, fits) = gated-ready m h s G d in
    rw e (record {
      answered = λ x q. absurd (cc);
      readied = λ _. record {
        scratch = G.scratch;
        number = sym d ∙ G.number;
        knows = record { frame = λ _. fits; verdict = λ _. sym (ready-verdict m h R); zeros = G.knows.zeros; fits = G.knows.fits };
      };
    })

-- and where it refused
pub entered-refused : (m : List ℕ) (h : Header) (s : List ℕ) {s' : List ℕ} {g : Gate} {r : Begun} (refused : Refusal) → Gated m h s s' g → g.said ≡ Err refused
    → r ≡ replies (reply (refusal_no refused) 0) g.known → Enters m h s s' r
entered-refused m h s {s'} {g} {r} refused G n e =
    let G' : Gated m h s s' (gate (Err refused) g.known) = record { scratch = G.scratch; number = ap number_in (sym n) ∙ G.number; knows = G.knows } in
    rw e (record { answered = λ x q. (refused, G', cc); readied = λ q. absurd (cc) })

-- the start of the three that need ready memory
module _ (m : List ℕ) (h : Header) (s : List ℕ) {s' : List ℕ} (a b : ℕ) {r : Begun} (E : Enters m h s s' r) where
  -- a refusal, with its result
  stopped : {w : Outcome} {x : Reply} → r.reply ≡ Some x
      → ((refused : Refusal) → Gated m h s s' (gate (Err refused) r.known) → Did w m s' (answer h (refusal_no refused) 0) r.known)
      → Did w m s' (keeping h x) r.known
  stopped {w} {x} f D =
      let (refused, G, z) = E.answered x f in
      subst (λ (y : Reply). Did w m s' (keeping h y) r.known) (sym z) (D refused G)

  pub starts_make : (change : Change) → Starts (called (Make change) a b) m h s m s' r
  unfolding called
  starts_make change = record {
    answered = λ x f. stopped f (λ refused G. did-refused m h s (changed change a b m h) G (refused-not_done refused));
    readied = λ t.
        let G = E.readied t in
        (refl, ap (λ (t : List ℕ). guarded m h t (changed change a b m h)) G.scratch ∙ guarded-again m h s (changed change a b m h), G.knows);
  }

  -- the two counts
  count-again : (work : Reply) → s' ≡ scratch_after m h s
      → ◌≡◌ {A = Outcome} (let w = guarded_read m h s' work in (m, w.0, keeping h w.1)) (let w = guarded_read m h s work in (m, w.0, keeping h w.1))
  count-again work e =
      ap (λ (w : List ℕ × Reply). (m, w.0, keeping h w.1)) (ap (λ (t : List ℕ). guarded_read m h t work) e ∙ read_again m h s work)

  count-stopped : (work : Reply) (x : Reply) → r.reply ≡ Some x
      → Did (let w = guarded_read m h s work in (m, w.0, keeping h w.1)) m s' (keeping h x) r.known
  count-stopped work x f = stopped f (λ refused G. did-kept m h s (read-stopped m h s G.scratch G.number work (refused-not_done refused)) G.knows)

  pub starts-live : Starts (called LiveCount a b) m h s m s' r
  unfolding called live_call
  starts-live = record {
    answered = count-stopped (reply DONE (census_of m h).live);
    readied = λ t. let G = E.readied t in (refl, count-again (reply DONE (census_of m h).live) G.scratch, G.knows);
  }

  pub starts-below : Starts (called DescendantCount a b) m h s m s' r
  unfolding called
  starts-below = record {
    answered = count-stopped (counted m h.used a);
    readied = λ t. let G = E.readied t in (refl, count-again (counted m h.used a) G.scratch, G.knows);
  }

-- the validator has no arguments
pub starts-validate : (m : List ℕ) (h : Header) (s : List ℕ) {s' : List ℕ} (a b : ℕ) {r : Begun} → Starts (called Validate 0 0) m h s m s' r
    → Starts (called Validate a b) m h s m s' r
unfolding called
starts-validate m h s a b S = record { answered = S.answered; readied = S.readied }

-- answered
pub starts-answered : (outcome : List ℕ → Header → List ℕ → Outcome) (m : List ℕ) (h : Header) (s : List ℕ) {m' s' : List ℕ} {x : Reply} {k : Known} {r : Begun}
    → r ≡ replies x k → Did (outcome m h s) m' s' (keeping h x) k → Starts outcome m h s m' s' r
starts-answered outcome m h s {m'} {s'} {x} {k} e D =
    rw e (record { answered = λ y q. subst (λ (z : Reply). Did (outcome m h s) m' s' (keeping h z) k) (told q) D; readied = λ q. absurd (cc) })
  where
    told : {y : Reply} → Some x ≡ Some y → x ≡ y
    told q = cc

-- ready from the first
pub starts-ready : (c : Command) (m : List ℕ) (h : Header) (s : List ℕ) {k : Known} {r : Begun} → r ≡ readies k → Knows m h s k → known_ready k ≡ true
    → Starts (commanded c) m h s m s r
starts-ready c m h s e K t = rw e (record { answered = λ x q. absurd (cc); readied = λ _. (refl, refl, known-ready m h s K t) })

-- the call that was asked for, and COMMAND first
pub starts-same : (m : List ℕ) (h : Header) (s : List ℕ) {m' s' : List ℕ} (a b : ℕ) {r : Begun} {x y : Call} → x ≡ y
    → Starts (called x a b) m h s m' s' r → Starts (called y a b) m h s m' s' r
starts-same m h s {m'} {s'} a b {r} e = subst (λ (call : Call). Starts (called call a b) m h s m' s' r) e

pub starts-accepted : (c : Command) (m : List ℕ) (h : Header) (s : List ℕ) {m' s' : List ℕ} {r : Begun}
    → acceptable c.code c.unused c.a c.b ≡ true → Starts (called (call_of c.code) c.a c.b) m h s m' s' r
    → Starts (commanded c) m h s m' s' r
unfolding commanded
starts-accepted c m h s e S = record { answered = λ x q. rw e (S.answered x q); readied = λ q. rw e (S.readied q) }

-- memory is ready: the command is still to be done, and has the outcome that it had
module _ {outcome : List ℕ → Header → List ℕ → Outcome} {m : List ℕ} {h : Header} {s m' s' : List ℕ} {r : Begun} (S : Starts outcome m h s m' s' r)
    (e : r.reply ≡ None) where
  pub readied-knows : Knows m' h s' (ready r.known.clean)
  readied-knows = let (q, w, K) = S.readied e in subst (λ (x : List ℕ). Knows x h s' (ready r.known.clean)) (sym q) K

  pub readied-same : outcome m' h s' ≡ outcome m h s
  readied-same = let (q, w, K) = S.readied e in ap (λ (x : List ℕ). outcome x h s') q ∙ w
