mod WalkFacts
