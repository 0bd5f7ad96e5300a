use Rattle.std.proofs.Common.{◌≡◌, map, All}
use Rattle.fx_props.specs.Property.{IsLawfulDef}
use Rattle.fx_props.specs.Entries.{def_of}
use Rattle.fx_props.proofs.entry.set_of.Given as goal

abbrev pub invariant-loop-entry : goal.invariant-loop-entry
invariant-loop-entry l =
    record {
      same : l.defs.items ≡ map def_of l.yielded;
      lawful : All IsLawfulDef l.defs.items;
    }
