-- The printed codes of faults.
use Rattle.std.specs.Prelude.{ℕ, List, codes}
use Rattle.gw_pattern.specs.declared.fault.PCode.{PCode}
use Rattle.gw_pattern.specs.declared.fault.PCode.TheVariants.{Empty, BadMethod, NoSlash, BraceInHost, Unclean, ConnectMethod, BadWildcardStart, BadWildcardEnd, EndNotLast, RestNotLast, EmptyName, BadName, DuplicateName, TooManySegments, TooManyWildcards}

abbrev pub code_text : PCode → List ℕ
code_text Empty = codes "P1"
code_text BadMethod = codes "P2"
code_text NoSlash = codes "P3"
code_text BraceInHost = codes "P4"
code_text Unclean = codes "P5"
code_text ConnectMethod = codes "P6"
code_text BadWildcardStart = codes "P7"
code_text BadWildcardEnd = codes "P8"
code_text EndNotLast = codes "P9"
code_text RestNotLast = codes "P10"
code_text EmptyName = codes "P11"
code_text BadName = codes "P12"
code_text DuplicateName = codes "P13"
code_text TooManySegments = codes "P14"
code_text TooManyWildcards = codes "P15"
