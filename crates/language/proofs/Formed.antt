-- Laws of forms. Assumes nothing.
use mathlib.Core.Path.{◌≡◌}
use Prim.Native.Nat.{◌≤◌}
use lib.ListN.{length}
use Rattle.language.specs.declared.command.Form as code
use Rattle.language.specs.Vocabulary.{Form}
use Rattle.language.specs.Forms.{Forms}

-- a form by its two parts
pub formed : {r : code.Form} {f : Form} → length f.largest ≤ 16 → (r.largest.now ≡ f.largest) × (r.rest ≡ f.rest) → Forms r f
formed h e = record { largest = e.0; rest = e.1; few = rw e.0 h }
