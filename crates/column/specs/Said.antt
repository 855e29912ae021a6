-- For inner functions; no public promise rests on it. What is said of a column, as the code hands it on. Assumes nothing.
use Rattle.std.specs.Prelude.{ℕ, ◌≡◌, Bool, cond, eqb}
use Rattle.types.specs.Types.{base_of, from_drda_type}
use Rattle.types.specs.declared.ColumnDescriptor.{ColumnDescriptor}
use Rattle.column.specs.declared.Said.{Said}
use Rattle.column.specs.Column.{unnumbered}
use Rattle.column.specs.Group.{group_type, group_ccsid}

-- the column of what is said: its type is the one that the table has under the code `listed`
abbrev pub said_column : Said → ColumnDescriptor
said_column a =
    let m = a.numbers in
    unnumbered a.drda_type a.length m a.nullable (from_drda_type a.listed a.length m.precision m.scale).db2_type a.byte_order a.origin

-- the code under which the table has the type of an SDA column of code c: 60 is Binary, 62 VarBinary
unfoldable pub sda_code : ℕ → ℕ → ℕ
sda_code c ccsid =
    cond (eqb ccsid 0) (cond (eqb (base_of c) 0x30) 0x60 (cond (eqb (base_of c) 0x32) 0x62 c)) c

-- the code under which the table has the type of an undeclared LID l other than 0E: 0E is Double, 0A Real, 3C Graphic, 3E VarGraphic, CA Clob
unfoldable pub group_code : ℕ → ℕ
group_code l =
    let b = base_of l in
    cond (eqb 0x0A b) 0x0E (cond (eqb 0x0C b) 0x0A (cond (eqb 0x36 b) 0x3C (cond (eqb 0x38 b) 0x3E (cond (eqb 0x3A b) 0x3E (cond (eqb 0xCE b) 0xCA l)))))

-- whatever its length is, a column of the undeclared LID l has this CCSID
abbrev pub CcsidFor : ℕ → ℕ → Type 0
CcsidFor l ccsid = (n : ℕ) → ccsid ≡ group_ccsid (group_type l n)

-- whatever its length is, a column of the declared code c is nullable or not
abbrev pub NullableFor : ℕ → Bool → Type 0
NullableFor c b = (n : ℕ) → b ≡ (from_drda_type c n 0 0).nullable
