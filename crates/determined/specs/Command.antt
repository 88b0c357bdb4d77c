-- Crate command: the code table, one command, what a batch remembers. Its public functions, each with one outcome; of those that remember
-- something of the memory, all but that. Excluded: a command that answers as it likes where its code is unknown.
use Rattle.std.specs.Prelude.{◌≡◌, refl, List, ℕ, Option, Some, None}
use Rattle.std.proofs.Common.{sym, ◌∙◌}
use Rattle.determined.specs.Outcome.{OneOutcome, one_value, OneSeen}
use Rattle.examine.specs.declared.chain.Verdict.{Verdict}
use Rattle.link.specs.declared.header.Header.{Header}
use Rattle.rules.specs.declared.answer.Reply.{Reply}
use Rattle.command.specs.Commands.{Outcome, keeping, commanded}
use Rattle.command.specs.Acts.{Starts}
use Rattle.command.specs.StartLaws.{readied-same}
use Rattle.command.specs.declared.command.Command.{Command}
use Rattle.command.specs.declared.start.Begun.{Begun}
use Rattle.command.proofs.start.start
use Rattle.command.proofs.act.act
use Rattle.command.proofs.known.Known.nothing
use Rattle.command.proofs.known.Known.fresh
use Rattle.command.proofs.known.Known.ready
use Rattle.command.proofs.known.Known.is_ready
use Rattle.command.proofs.known.Known.settled
use Rattle.command.proofs.known.KnownFromSeen.from as known_from
use Rattle.command.proofs.known.look
use Rattle.command.proofs.call.place_of
use Rattle.command.proofs.call.call_of
use Rattle.command.proofs.code.Work.is_free
use Rattle.command.proofs.code.arguments_of
use Rattle.command.proofs.code.is_acceptable
use Rattle.command.proofs.command.one_command
use Rattle.command.proofs.work.work

pub one-place_of : OneOutcome place_of.Kinds.ps place_of.Kinds.r place_of.Reads.Learnt
one-place_of _ _ _ _ = one_value (λ t. (t, (tt, tt)))

pub one-call_of : OneOutcome call_of.Kinds.ps call_of.Kinds.r call_of.Reads.Learnt
one-call_of _ _ _ _ = one_value (λ t. (t, (tt, tt)))

pub one-is_free : OneOutcome is_free.Kinds.ps is_free.Kinds.r is_free.Reads.Learnt
one-is_free _ _ _ _ = one_value (λ t. (t, (tt, tt)))

pub one-arguments_of : OneOutcome arguments_of.Kinds.ps arguments_of.Kinds.r arguments_of.Reads.Learnt
one-arguments_of _ _ _ _ = one_value (λ t. (t, (tt, tt)))

pub one-is_acceptable : OneOutcome is_acceptable.Kinds.ps is_acceptable.Kinds.r is_acceptable.Reads.Learnt
one-is_acceptable _ _ _ _ = one_value (λ t. (t, (tt, (tt, (tt, (tt, tt))))))

pub one-one_command : OneOutcome one_command.Kinds.ps one_command.Kinds.r one_command.Reads.Learnt
one-one_command _ _ _ _ = one_value (λ t. (t.2, (t.0, (tt, (t.1, (tt, tt))))))

pub one-work : OneOutcome work.Kinds.ps work.Kinds.r work.Reads.Learnt
one-work _ _ _ _ = one_value (λ t. (t.1, (t.0, (tt, (tt, (tt, (tt, tt)))))))

pub one-nothing : OneOutcome nothing.Kinds.ps nothing.Kinds.r nothing.Reads.Learnt
one-nothing _ _ _ _ p q i = (record { verdict = (p.0 ∙ sym q.0) i; clean = (p.1 ∙ sym q.1) i }, tt)

pub one-known_from : OneOutcome known_from.Kinds.ps known_from.Kinds.r known_from.Reads.Learnt
one-known_from _ _ _ _ = one_value (λ t. (t, (tt, tt)))

pub one-fresh : OneOutcome fresh.Kinds.ps fresh.Kinds.r fresh.Reads.Learnt
one-fresh _ _ _ _ = one_value (λ t. (t, tt))

pub one-ready : OneOutcome ready.Kinds.ps ready.Kinds.r ready.Reads.Learnt
one-ready _ _ _ _ = one_value (λ t. (t, (tt, tt)))

pub one-is_ready : OneOutcome is_ready.Kinds.ps is_ready.Kinds.r is_ready.Reads.Learnt
one-is_ready _ _ _ _ = one_value (λ t. (t, (tt, tt)))

pub one-settled : OneOutcome settled.Kinds.ps settled.Kinds.r settled.Reads.Learnt
one-settled _ _ _ _ = one_value (λ t. (t, (tt, (tt, tt))))

-- What a batch remembers of the memory: how much of it is open.

-- The scratch, and the verdict found. Open: how many of the zero words are known to be zero.
pub seen-look : OneSeen look.Kinds.ps look.Kinds.r (List ℕ × Verdict) (λ _ _ x. (x.1.1.1.0, x.0.verdict)) look.Reads.Learnt
seen-look _ _ _ _ p q i = ((p.zero ∙ sym q.zero) i, (p.knows.verdict p.looked ∙ sym (q.knows.verdict q.looked)) i)

-- Words, scratch and the whole answer. Open: how many of the zero words are known to be zero.
pub seen-act : OneSeen act.Kinds.ps act.Kinds.r Outcome (λ _ _ x. (x.1.0, x.1.1.1.0, x.0.answer)) act.Reads.Learnt
seen-act _ _ _ _ p q = p.same ∙ sym q.same

-- What comes of a command that was begun, on the words and scratch it left.
abbrev pub finished : Command → Header → List ℕ → List ℕ → Option Reply → Outcome
finished c h m s (Some x) = (m, s, keeping h x)
finished c h m s None = commanded c m h s

finished-same : (c : Command) (m : List ℕ) (h : Header) (s m' s' : List ℕ) (r : Begun) → Starts (commanded c) m h s m' s' r
    → finished c h m' s' r.reply ≡ commanded c m h s
finished-same c m h s m' s' r S = by r.reply refl
  where
    by : (o : Option Reply) → r.reply ≡ o → finished c h m' s' o ≡ commanded c m h s
    by None e = readied-same S e
    by (Some x) e = (S.answered x e).same

-- The command's outcome, once it is done. Open: whether it is answered at once where memory is ready, and what is remembered.
pub seen-start :
    OneSeen start.Kinds.ps start.Kinds.r Outcome (λ _ a x. finished a.1.1.1.1.0 a.1.0 x.1.0 x.1.1.1.0 x.0.reply) start.Reads.Learnt
seen-start _ a x y p q =
    let c = a.1.1.1.1.0 in
    finished-same c _ a.1.0 _ x.1.0 x.1.1.1.0 x.0 p ∙ sym (finished-same c _ a.1.0 _ y.1.0 y.1.1.1.0 y.0 q)
