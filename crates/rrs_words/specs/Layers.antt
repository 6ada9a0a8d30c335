-- The instructions of the layers: those that are no row of the kit. An instruction on a CSR, mret,
-- wfi or fence.i, one of extension A, or one of Zba to Zicond. Each reader of words or of texts
-- asks these.
use Rattle.std.specs.Prelude.{ℕ, List}
use Rattle.rrs_words.specs.declared.atomics.AtomicRow.{AtomicRow}
use Rattle.rrs_words.specs.declared.atomics.AtomicRow.TheVariants.{LrW, ScW, AmoSwap, AmoAdd, AmoXor, AmoAnd, AmoOr, AmoMin, AmoMax, AmoMinu, AmoMaxu}
use Rattle.rrs_words.specs.declared.bits.BitRow.{BitRow}
use Rattle.rrs_words.specs.declared.bits.BitRow.TheVariants.{Sh1add, Sh2add, Sh3add, Andn, Orn, Xnor, Clz, Ctz, Cpop, Max, Maxu, Min, Minu, SextB, SextH, ZextH, Rol, Ror, Rori, OrcB, Rev8, Bclr, Bclri, Bext, Bexti, Binv, Binvi, Bset, Bseti, Clmul, Clmulh, Clmulr, Pack, Packh, Brev8, Zip, Unzip, CzeroEqz, CzeroNez}
use Rattle.rrs_words.specs.declared.instructions.SystemRow.{SystemRow}
use Rattle.rrs_words.specs.declared.instructions.SystemRow.TheVariants.{Csrrw, Csrrs, Csrrc, Csrrwi, Csrrsi, Csrrci, Mret, Wfi, FenceI}
use Rattle.rrs_words.specs.declared.layers.LayerInstruction.{LayerInstruction}
use Rattle.rrs_words.specs.declared.layers.LayerInstruction.TheVariants.{System, Atomic, Bits}
use Rattle.rrs_words.specs.SystemInstructions.{IsSystem}
use Rattle.rrs_words.specs.SystemTexts.{system_text}
use Rattle.rrs_words.specs.AtomicInstructions.{IsAtomic}
use Rattle.rrs_words.specs.AtomicTexts.{atomic_text}
use Rattle.rrs_words.specs.BitInstructions.{IsBits}
use Rattle.rrs_words.specs.BitTexts.{bit_text}

-- the word w is this instruction
abbrev pub IsOfLayer : ℕ → LayerInstruction → Type 0
IsOfLayer w (System i) = IsSystem w i.row i.fields
IsOfLayer w (Atomic i) = IsAtomic w i.row i.fields
IsOfLayer w (Bits i) = IsBits w i.row i.fields

abbrev pub layer_text : LayerInstruction → List ℕ
layer_text (System i) = system_text i.row i.fields
layer_text (Atomic i) = atomic_text i.row i.fields
layer_text (Bits i) = bit_text i.row i.fields

-- ---- their numbers, which follow the 48 rows of the kit

abbrev pub system_number : SystemRow → ℕ
system_number Csrrw = 49
system_number Csrrs = 50
system_number Csrrc = 51
system_number Csrrwi = 52
system_number Csrrsi = 53
system_number Csrrci = 54
system_number Mret = 55
system_number Wfi = 56
system_number FenceI = 57

abbrev pub atomic_number : AtomicRow → ℕ
atomic_number LrW = 58
atomic_number ScW = 59
atomic_number AmoSwap = 60
atomic_number AmoAdd = 61
atomic_number AmoXor = 62
atomic_number AmoAnd = 63
atomic_number AmoOr = 64
atomic_number AmoMin = 65
atomic_number AmoMax = 66
atomic_number AmoMinu = 67
atomic_number AmoMaxu = 68

abbrev pub bit_number : BitRow → ℕ
bit_number Sh1add = 69
bit_number Sh2add = 70
bit_number Sh3add = 71
bit_number Andn = 72
bit_number Orn = 73
bit_number Xnor = 74
bit_number Clz = 75
bit_number Ctz = 76
bit_number Cpop = 77
bit_number Max = 78
bit_number Maxu = 79
bit_number Min = 80
bit_number Minu = 81
bit_number SextB = 82
bit_number SextH = 83
bit_number ZextH = 84
bit_number Rol = 85
bit_number Ror = 86
bit_number Rori = 87
bit_number OrcB = 88
bit_number Rev8 = 89
bit_number Bclr = 90
bit_number Bclri = 91
bit_number Bext = 92
bit_number Bexti = 93
bit_number Binv = 94
bit_number Binvi = 95
bit_number Bset = 96
bit_number Bseti = 97
bit_number Clmul = 98
bit_number Clmulh = 99
bit_number Clmulr = 100
bit_number Pack = 101
bit_number Packh = 102
bit_number Brev8 = 103
bit_number Zip = 104
bit_number Unzip = 105
bit_number CzeroEqz = 106
bit_number CzeroNez = 107
