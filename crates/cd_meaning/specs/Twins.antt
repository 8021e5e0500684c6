-- Words and forms that are one by their formulas.
use Rattle.std.specs.Prelude.{Option, Some, None}
use Rattle.cd_elem.specs.declared.word.ElemWord.{ElemWord}
use Rattle.cd_elem.specs.declared.word.PieceWord.{PieceWord}

-- the word on pieces that does on them what this one does on elements
abbrev pub twin : ElemWord → Option PieceWord
twin ElemWord.PassE = Some PieceWord.Pass
twin (ElemWord.TakeE n) = Some (PieceWord.Take n)
twin (ElemWord.RepeatE n) = Some (PieceWord.Repeat n)
twin (ElemWord.DropE n) = Some (PieceWord.Drop n)
twin ElemWord.HeadE = Some PieceWord.Head
twin ElemWord.PeekE = Some PieceWord.Peek
twin ElemWord.LastE = Some PieceWord.Last
twin ElemWord.LengthE = Some PieceWord.Length
twin ElemWord.NullE = Some PieceWord.Null
twin (ElemWord.CollectE n) = Some (PieceWord.Collect n)
twin _ = None
