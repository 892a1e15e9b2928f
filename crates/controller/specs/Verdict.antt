-- The verdicts on what a start takes. "first match wins"
use Rattle.std.specs.Prelude.{ℕ, Bool, not, ◌&&◌, ◌||◌, List, [], ◌∷◌, eqb, get_or}
use Rattle.rules.specs.Rules.{Table, first_match}
use Rattle.bits.specs.Bits.{some_below}
use Rattle.entry.specs.declared.submission.Submission.{Submission}
use Rattle.controller.specs.declared.Command.{Command}
use Rattle.controller.specs.State.{no_command, outstanding}
use Rattle.controller.specs.Status.{invalid_field, command_id_conflict, missing_fused}

-- "CID in use by an outstanding command of the same SQ"
abbrev pub uses : List Command → ℕ → ℕ → ℕ → ℕ → Bool
uses ks free sq cid t =
    outstanding free t && (eqb (get_or ks t no_command).sq sq && eqb (get_or ks t no_command).cid cid)

unfoldable pub in_use : List Command → ℕ → ℕ → ℕ → Bool
in_use ks free sq cid = some_below 64 (uses ks free sq cid)

-- a command that is taken alone from queue id; FUSE 1 is then "without a submitted follower of FUSE 2"
abbrev pub one_rules : ℕ → Submission → Bool → Table
one_rules id e used =
    (eqb id 0 && not (eqb e.fuse 0), invalid_field)
    ∷ (eqb e.fuse 3, invalid_field)
    ∷ (eqb e.fuse 2, missing_fused)
    ∷ (eqb e.fuse 1, missing_fused)
    ∷ (not (eqb e.psdt 0), invalid_field)
    ∷ (used, command_id_conflict)
    ∷ []

unfoldable pub verdict_one : ℕ → Submission → Bool → ℕ
verdict_one id e used = first_match (one_rules id e used)

-- "For a pair, both halves alike"
abbrev pub pair_rules : Submission → Submission → Bool → Bool → Table
pair_rules a b used-a used-b =
    (not (eqb a.opc 0x05 && eqb b.opc 0x01), invalid_field)
    ∷ (not (eqb a.nsid b.nsid && (eqb a.slba b.slba && eqb a.nlb b.nlb)), invalid_field)
    ∷ (not (eqb a.psdt 0 && eqb b.psdt 0), invalid_field)
    ∷ (used-a || (used-b || eqb a.cid b.cid), command_id_conflict)
    ∷ []

unfoldable pub verdict_pair : Submission → Submission → Bool → Bool → ℕ
verdict_pair a b used-a used-b = first_match (pair_rules a b used-a used-b)
