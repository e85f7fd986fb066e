-- What buffers have room for and hold after reading or loading, and what the converters leave: the contracts' parts.
use Rattle.convert.specs.declared.Loaded.{Loaded}
use Rattle.forms.specs.Converting.{Answer, Loading, Reading}
use Rattle.std.specs.Prelude.{ℕ, ◌*◌, ◌≤◌, ◌<◌, List, [], ◌≡◌, length, take, Err, None, Ok, Option, Some}
use Rattle.forms.specs.Cells.{arity_of}
use Rattle.forms.specs.Numbering.{met}
use Rattle.forms.specs.Compact.{compact_form, pair_form}
use Rattle.forms.specs.Stored.{StoredForm, compact_stored, pair_stored, stored_of}
use Rattle.forms.specs.Converting.{reading, loading, compacting, expanding, in_edition, written}

-- the form of the cells stands at the start of the buffer, if they were read
abbrev pub HoldsForm : StoredForm → List ℕ → List ℕ → Reading → Type 0
HoldsForm s cs buffer (Ok read) = take read.tokens buffer ≡ s.form cs
HoldsForm s cs buffer (Err r) = Unit {0}

-- the variables of the cells stand in order of rank at the start of the buffer, if the cells were read
abbrev pub HoldsVariables : List ℕ → List ℕ → Reading → Type 0
HoldsVariables cs buffer (Ok read) = take read.variables buffer ≡ met [] cs
HoldsVariables cs buffer (Err r) = Unit {0}

-- the pair form of the form's terms stands at the start of the buffer, if it was loaded
abbrev pub HoldsTerms : StoredForm → List ℕ → List ℕ → Loading → Type 0
HoldsTerms s fs buffer (Some n) = take n buffer ≡ s.cells fs
HoldsTerms s fs buffer None = Unit {0}

-- ---- reading and loading

-- room for the variables and the form of the cells, where there are not too many cells to be read
abbrev pub RoomForForm : (cs vars form : List ℕ) → Type 0
RoomForForm cs vars form = length cs ≤ 256 → (length cs ≤ length vars) × (3 * length cs ≤ 2 * length form)

-- room for the terms of a form: two cells for each token, or as many as legal terms have
abbrev pub RoomForTerms : (form cells : List ℕ) → Type 0
RoomForTerms form cells = length cells < 256 → 2 * length form ≤ length cells

-- the same by the number of cells, and of tokens
abbrev pub RoomForCells : (n : ℕ) (vars form : List ℕ) → Type 0
RoomForCells n vars form = n ≤ 256 → (n ≤ length vars) × (3 * n ≤ 2 * length form)

abbrev pub RoomForTokens : (n : ℕ) (cells : List ℕ) → Type 0
RoomForTokens n cells = length cells < 256 → 2 * n ≤ length cells

-- m terms were read as they are defined to be, and the buffers hold their variables and their form
abbrev pub ReadsAs : (ℕ → ℕ) → StoredForm → (m : ℕ) (cs vars form : List ℕ) → Reading → Type 0
ReadsAs arity s m cs vars form r = (r ≡ reading arity s m cs) × HoldsForm s cs form r × HoldsVariables cs vars r

-- in the form of an edition, in compact form, in numbered pair form
abbrev pub Reads : (e m : ℕ) (cs vars form : List ℕ) → Reading → Type 0
Reads e = ReadsAs (arity_of e) (stored_of e)

abbrev pub ReadsLists : (e m : ℕ) (cs vars form : List ℕ) → Reading → Type 0
ReadsLists e = ReadsAs (arity_of e) (compact_stored (arity_of e))

abbrev pub ReadsPairs : (e m : ℕ) (cs vars form : List ℕ) → Reading → Type 0
ReadsPairs e = ReadsAs (arity_of e) (pair_stored (arity_of e))

-- a form was loaded as it is defined to be, and the buffer holds its terms
abbrev pub LoadsAs : StoredForm → (m : ℕ) (form buffer : List ℕ) → Loading → Type 0
LoadsAs s m form buffer r = (r ≡ loading s m form) × HoldsTerms s form buffer r

abbrev pub Loads : (e m : ℕ) (form buffer : List ℕ) → Loading → Type 0
Loads e = LoadsAs (stored_of e)

-- so many cells and variables
abbrev pub counted : ℕ → ℕ → Loaded
counted n m = record { cells = n; variables = m }

-- what was loaded, and that the variables of the form were counted
abbrev pub loading_of : Option Loaded → Loading
loading_of (Some loaded) = Some loaded.cells
loading_of None = None

abbrev pub CountsVariables : List ℕ → Option Loaded → Type 0
CountsVariables form (Some loaded) = loaded.variables ≡ length (met [] form)
CountsVariables form None = Unit {0}

abbrev pub CountedAs : StoredForm → (m : ℕ) (form buffer : List ℕ) → Option Loaded → Type 0
CountedAs s m form buffer r = LoadsAs s m form buffer (loading_of r) × CountsVariables form r

abbrev pub LoadsCounted : (e m : ℕ) (form buffer : List ℕ) → Option Loaded → Type 0
LoadsCounted e = CountedAs (stored_of e)

abbrev pub CountsLists : (e m : ℕ) (form buffer : List ℕ) → Option Loaded → Type 0
CountsLists e = CountedAs (compact_stored (arity_of e))

abbrev pub CountsPairs : (e m : ℕ) (form buffer : List ℕ) → Option Loaded → Type 0
CountsPairs e = CountedAs (pair_stored (arity_of e))

-- ---- converting

-- the converter answered so, and wrote the cells if the answer says so
abbrev pub Converts : (answer : Answer) (cells out : List ℕ) → Answer → List ℕ → Type 0
Converts answer cells out r out' = (r ≡ answer) × (out' ≡ written r cells out)

-- m terms were stored in the form of the edition; compacted, in the edition of any number: if a converter takes it
abbrev pub Compacts : (e m : ℕ) (cs out : List ℕ) → Answer → List ℕ → Type 0
Compacts e m cs out = Converts (compacting (arity_of e) (stored_of e) m cs (length out)) ((stored_of e).form cs) out

abbrev pub CompactsIn : (e m : ℕ) (cs out : List ℕ) → Answer → List ℕ → Type 0
CompactsIn e m cs out =
    Converts (in_edition e (compacting (arity_of e) (compact_stored (arity_of e)) m cs (length out)))
    (compact_form (arity_of e) cs) out

-- the form of m terms was expanded; in the edition of any number: if a converter takes it
abbrev pub Expands : (e m : ℕ) (form out : List ℕ) → Answer → List ℕ → Type 0
Expands e m form out = Converts (expanding (stored_of e) m form (length out)) ((stored_of e).cells form) out

abbrev pub ExpandsIn : (e m : ℕ) (form out : List ℕ) → Answer → List ℕ → Type 0
ExpandsIn e m form out =
    Converts (in_edition e (expanding (compact_stored (arity_of e)) m form (length out)))
    (pair_form (arity_of e) form) out
