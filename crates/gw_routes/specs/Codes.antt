-- The printed codes of faults.
use Rattle.std.specs.Prelude.{ℕ, List, codes}
use Rattle.gw_routes.specs.declared.fault.GCode.{GCode}
use Rattle.gw_routes.specs.declared.fault.GCode.TheVariants.{NotJson, UnknownName, Missing, WrongKind, OutOfRange, Pattern, BadAddress}

abbrev pub code_text : GCode → List ℕ
code_text NotJson = codes "G1"
code_text UnknownName = codes "G2"
code_text Missing = codes "G3"
code_text WrongKind = codes "G4"
code_text OutOfRange = codes "G5"
code_text Pattern = codes "G6"
code_text BadAddress = codes "G8"
