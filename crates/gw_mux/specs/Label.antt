-- The labels of the tree's branches, as lists of numbers.
use Rattle.std.specs.Prelude.{ℕ, List, [], ◌∷◌}
use Rattle.percent_encoding.specs.Percent.{percent_decode}
use Rattle.gw_mux.specs.declared.label.Label.{Label}
use Rattle.gw_mux.specs.declared.label.Label.TheVariants.{Host, Here, Literal, One, End, Rest, Method, AnyMethod}
use Rattle.gw_mux.specs.declared.label.Asked.{Asked}
use Rattle.gw_mux.specs.declared.label.Asked.TheVariants.{Part, Label as Named}

-- the kind of a label, by its number
abbrev pub rank_of : Label → ℕ
rank_of (Host bytes) = 7
rank_of Here = 0
rank_of (Literal bytes) = 1
rank_of One = 2
rank_of End = 3
rank_of Rest = 4
rank_of (Method bytes) = 5
rank_of AnyMethod = 6

abbrev pub key_text : Label → List ℕ
key_text (Host bytes) = bytes.now
key_text Here = []
key_text (Literal bytes) = bytes.now
key_text One = []
key_text End = []
key_text Rest = []
key_text (Method bytes) = bytes.now
key_text AnyMethod = []

-- a label's kind, and then its bytes
abbrev pub key_of : Label → List ℕ
key_of label = rank_of label ∷ key_text label

-- the key of the label that is looked for
abbrev pub asked_key : Asked → List ℕ
asked_key (Part part) = 1 ∷ percent_decode part.now
asked_key (Named label) = key_of label
