-- Kind by kind, at its width.
use Rattle.std.proofs.Common.{refl}
use Rattle.scalars.proofs.InBytes.{is_unsigned, is_signed}
use Rattle.scalars.proofs.standard.opentype_types.Goals as goal

pub returns : goal.returns
returns c = record {
  count = refl;
  uint8 = is_unsigned 1;
  uint16 = is_unsigned 2;
  uint24 = is_unsigned 3;
  uint32 = is_unsigned 4;
  uint64 = is_unsigned 8;
  int8 = is_signed 1;
  int16 = is_signed 2;
  int32 = is_signed 4;
  int64 = is_signed 8;
}
