-- The status codes of verdicts, by the standard's names.
use Rattle.std.specs.Prelude.{ℕ}

-- Invalid Field in Command
abbrev pub invalid_field : ℕ
invalid_field = 0x02

-- Command ID Conflict
abbrev pub command_id_conflict : ℕ
command_id_conflict = 0x03

-- Command Aborted due to Failed Fused Command
abbrev pub failed_fused : ℕ
failed_fused = 0x09

-- Command Aborted due to Missing Fused Command
abbrev pub missing_fused : ℕ
missing_fused = 0x0a
