-- A trace: commands of twelve bytes, little-endian, and perhaps a part of one at the end.
-- Excluded: the two arguments exchanged; a part that asks for no answer.
use Rattle.std.specs.Prelude.{cond, List, ℕ, ◌+◌, ◌/◌, ◌%◌, eqb, get_or}
use Rattle.little_endian.specs.Bytes.{number_at}
use Rattle.command.specs.declared.command.Command.{Command}

-- bytes to a command
abbrev pub size : ℕ
size = 12

-- The command whose bytes begin at a place: the code, three bytes, a and b as 32-bit numbers.
unfoldable pub command_at : List ℕ → ℕ → Command
command_at trace at = record {
  code = get_or trace at 0;
  unused = number_at 3 trace (at + 1);
  a = number_at 4 trace (at + 4);
  b = number_at 4 trace (at + 8);
}

-- One answer for each command, and one where bytes are left.
unfoldable pub answers_of : ℕ → ℕ
answers_of length = cond (eqb (length % size) 0) (length / size) (length / size + 1)
