-- What has been read, as the definitions see it.
use Rattle.std.specs.Prelude.{◌≡◌, Bool, true, false, Option, Some, None}
use Rattle.spec_script.specs.Scripts as scripts
use Rattle.script_text.specs.declared.drafts.Draft.{Draft}

abbrev pub draft_of : Draft → scripts.Draft
draft_of d = record { script = d.script; callers = d.callers; totals = d.totals }

-- the line is read, and this is what is read after it; or it is none of the grammar
abbrev pub Leaves : Option scripts.Draft → Bool → Draft → Type 0
Leaves meant true d = meant ≡ Some (draft_of d)
Leaves meant false d = meant ≡ None
