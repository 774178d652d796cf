mod WholeLists
